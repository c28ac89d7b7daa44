use Rattle.tx_plan.proofs.Common.{List, [], ◌∷◌, ◌++◌, ap, sym, ◌∙◌, Pair, Plan, IsPlan, first_true, bar_refusals, with_bar, plan_of}
use Rattle.tx_plan.proofs.Made.{either, made_bar}
use Rattle.tx_plan.proofs.Refusing.{declares-refused, declares-no_memory}
use Rattle.tx_plan.proofs.builder.PlanBuilder.bar.Goals as goal

pub invariant_of-plan : goal.invariant_of-plan
invariant_of-plan g c =
    let p : Plan = plan_of c.plan.inside.exchanges.keys c.plan.inside.codes.entries c.plan.inside.ranges.items c.plan.inside.groups.entries c.plan.inside.routes c.plan.inside.bars in
    either (λ (l : List Pair). IsPlan (record p { bars = l })) c.add.result _ p.bars (p.bars ++ c.in_ok-pair.pair ∷ []) c.add.ensures.ok c.add.ensures.err c.plan.invariant
    (made_bar p _ c.plan.view_is c.plan.invariant c.args.exchange.now c.args.code.now c.in_ok-pair.pair c.in_ok-pair.ensures.ok c.in_ok-pair.ensures.entry)

pub returns-in_err-pair : goal.returns-in_err-pair
returns-in_err-pair g c =
    declares-refused (first_true (bar_refusals c.args.self.now c.args.exchange.now c.args.code.now)) c.args.self.now (with_bar c.args.self.now c.args.exchange.now c.args.code.now) c.self.inside.plan c.from_residual.result c.in_err-pair.field-0.0 c.from_residual.ensures.1
    (ap (λ (q : Plan). first_true (bar_refusals q c.args.exchange.now c.args.code.now)) (sym c.self.view_is) ∙ c.in_err-pair.ensures.err) c.self.view_is

pub returns-in_err-add : goal.returns-in_err-add
returns-in_err-add g c =
    let p : Plan = plan_of c.plan.inside.exchanges.keys c.plan.inside.codes.entries c.plan.inside.ranges.items c.plan.inside.groups.entries c.plan.inside.routes c.plan.inside.bars in
    declares-no_memory (first_true (bar_refusals c.args.self.now c.args.exchange.now c.args.code.now)) c.args.self.now (with_bar c.args.self.now c.args.exchange.now c.args.code.now) _ c.from_residual-in_err-add.result c.from_residual-in_err-add.ensures.1
    (ap (λ (q : Plan). first_true (bar_refusals q c.args.exchange.now c.args.code.now)) (sym c.self.view_is) ∙ c.in_ok-pair.ensures.ok)
    (ap (λ (l : List Pair). record p { bars = l }) c.in_err-add.ensures.err ∙ c.plan.view_is ∙ c.self.view_is)
