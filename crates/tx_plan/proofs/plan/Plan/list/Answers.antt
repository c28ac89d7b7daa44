use Rattle.tx_plan.proofs.Common.{◌∙◌, ap, Plan, route_list}
use Rattle.tx_plan.proofs.plan.Plan.list.Goals as goal

pub returns-clause-value : goal.returns-clause-value
returns-clause-value g c = c.list.ensures.value ∙ ap (λ (p : Plan). route_list p c.args.exchange c.args.code) c.self.view_is
