use Rattle.tx_plan.proofs.Common.{◌∙◌, ap, Plan, route_list}
use Rattle.tx_plan.proofs.plan.Plan.group_list.Goals as goal

pub returns : goal.returns
returns g c =
    c.in-Ok.ensures.0 ∙ c.list.ensures.value
    ∙ ap (λ (p : Plan). route_list p c.args.exchange c.args.code) c.self.view_is
