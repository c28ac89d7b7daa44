use Rattle.tx_plan.proofs.Common.{◌∙◌, ap, Plan, is_barred}
use Rattle.tx_plan.proofs.plan.Plan.is_barred.Goals as goal

pub returns : goal.returns
returns g c = c.has.ensures ∙ ap (λ (p : Plan). is_barred p c.args.exchange c.args.code) c.self.view_is
