use Rattle.tx_order.proofs.Common.{ap, ◌∙◌, Order}
use Rattle.tx_order.proofs.orders.Order.old_plan.Goals as goal

pub returns : goal.returns
returns g c = c.old_plan.ensures ∙ ap (λ (o : Order). o.transition.old) c.self.view_is
