use Rattle.tx_plan.proofs.Common.{List, [], ◌∷◌, ◌++◌, ap, sym, ◌∙◌, LineRange, Plan, IsPlan, first_true, lines_refusals, with_lines, plan_of}
use Rattle.std.specs.Prelude.{is_ok}
use Rattle.tx_plan.proofs.Made.{pushed, made_lines}
use Rattle.tx_plan.proofs.Refusing.{declares-refused, declares-no_memory}
use Rattle.tx_plan.proofs.builder.PlanBuilder.lines.Goals as goal

pub invariant_of-plan : goal.invariant_of-plan
invariant_of-plan g c =
    let p : Plan = plan_of c.plan.inside.exchanges.keys c.plan.inside.codes.entries c.plan.inside.ranges.items c.plan.inside.groups.entries c.plan.inside.routes c.plan.inside.bars in
    pushed (λ (l : List LineRange). IsPlan (record p { ranges = l })) (is_ok c.push.result) _ p.ranges (p.ranges ++ c.in_ok-range.range ∷ []) c.push.ensures.items c.plan.invariant
    (made_lines p _ c.plan.view_is c.plan.invariant c.args.code.now c.args.low.now c.args.high.now c.in_ok-range.range c.in_ok-range.ensures.ok c.in_ok-range.ensures.entry)

pub returns-in_err-range : goal.returns-in_err-range
returns-in_err-range g c =
    declares-refused (first_true (lines_refusals c.args.self.now c.args.code.now c.args.low.now c.args.high.now)) c.args.self.now (with_lines c.args.self.now c.args.code.now c.args.low.now c.args.high.now) c.self.inside.plan c.from_residual.result c.in_err-range.field-0.0 c.from_residual.ensures.1
    (ap (λ (q : Plan). first_true (lines_refusals q c.args.code.now c.args.low.now c.args.high.now)) (sym c.self.view_is) ∙ c.in_err-range.ensures.err) c.self.view_is

pub returns-in_err-push : goal.returns-in_err-push
returns-in_err-push g c =
    let p : Plan = plan_of c.plan.inside.exchanges.keys c.plan.inside.codes.entries c.plan.inside.ranges.items c.plan.inside.groups.entries c.plan.inside.routes c.plan.inside.bars in
    declares-no_memory (first_true (lines_refusals c.args.self.now c.args.code.now c.args.low.now c.args.high.now)) c.args.self.now (with_lines c.args.self.now c.args.code.now c.args.low.now c.args.high.now) _ c.from_residual-in_err-push.result c.from_residual-in_err-push.ensures.1
    (ap (λ (q : Plan). first_true (lines_refusals q c.args.code.now c.args.low.now c.args.high.now)) (sym c.self.view_is) ∙ c.in_ok-range.ensures.ok)
    (ap (λ (l : List LineRange). record p { ranges = l }) c.in_err-push.ensures.items ∙ c.plan.view_is ∙ c.self.view_is)
