use Rattle.tx_plan.proofs.Common.{List, [], ◌∷◌, ◌++◌, ap, sym, ◌∙◌, Plan, Route, IsPlan, first_true, route_refusals, with_route, plan_of}
use Rattle.tx_plan.proofs.Made.{either, made_route}
use Rattle.tx_plan.proofs.Refusing.{declares-refused, declares-no_memory}
use Rattle.tx_plan.proofs.builder.PlanBuilder.route.Goals as goal

pub invariant_of-plan : goal.invariant_of-plan
invariant_of-plan g c =
    let p : Plan = plan_of c.plan.inside.exchanges.keys c.plan.inside.codes.entries c.plan.inside.ranges.items c.plan.inside.groups.entries c.plan.inside.routes c.plan.inside.bars in
    either (λ (l : List Route). IsPlan (record p { routes = l })) c.add.result _ p.routes (p.routes ++ record { exchange = c.in_ok-pair.pair.exchange; code = c.in_ok-pair.pair.code; groups = c.in_ok-pair.list.items } ∷ []) c.add.ensures.ok c.add.ensures.err c.plan.invariant
    (made_route p _ c.plan.view_is c.plan.invariant c.args.exchange.now c.args.code.now c.args.groups (c.in_ok-pair.pair, c.in_ok-pair.list.items) c.in_ok-pair.ensures.ok (λ i. (c.in_ok-pair.ensures.pair i, c.in_ok-pair.ensures.groups i)))

pub returns-in_err-pair : goal.returns-in_err-pair
returns-in_err-pair g c =
    declares-refused (first_true (route_refusals c.args.self.now c.args.exchange.now c.args.code.now c.args.groups)) c.args.self.now (with_route c.args.self.now c.args.exchange.now c.args.code.now c.args.groups) c.self.inside.plan c.from_residual.result c.in_err-pair.field-0.0 c.from_residual.ensures.1
    (ap (λ (q : Plan). first_true (route_refusals q c.args.exchange.now c.args.code.now c.args.groups)) (sym c.self.view_is) ∙ c.in_err-pair.ensures.err) c.self.view_is

pub returns-in_err-add : goal.returns-in_err-add
returns-in_err-add g c =
    let p : Plan = plan_of c.plan.inside.exchanges.keys c.plan.inside.codes.entries c.plan.inside.ranges.items c.plan.inside.groups.entries c.plan.inside.routes c.plan.inside.bars in
    declares-no_memory (first_true (route_refusals c.args.self.now c.args.exchange.now c.args.code.now c.args.groups)) c.args.self.now (with_route c.args.self.now c.args.exchange.now c.args.code.now c.args.groups) _ c.from_residual-in_err-add.result c.from_residual-in_err-add.ensures.1
    (ap (λ (q : Plan). first_true (route_refusals q c.args.exchange.now c.args.code.now c.args.groups)) (sym c.self.view_is) ∙ c.in_ok-pair.ensures.ok)
    (ap (λ (l : List Route). record p { routes = l }) c.in_err-add.ensures.err ∙ c.plan.view_is ∙ c.self.view_is)
