use Rattle.tx_plan.proofs.Common.{◌∙◌, ap, Plan, has_route}
use Rattle.tx_plan.proofs.plan.Plan.has_route.Goals as goal

pub returns : goal.returns
returns g c = c.has.ensures ∙ ap (λ (p : Plan). has_route p c.args.pair.now.exchange c.args.pair.now.code) c.self.view_is
