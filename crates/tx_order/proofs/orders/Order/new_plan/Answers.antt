use Rattle.tx_order.proofs.Common.{ap, ◌∙◌, Order}
use Rattle.tx_order.proofs.orders.Order.new_plan.Goals as goal

pub returns : goal.returns
returns g c = c.new_plan.ensures ∙ ap (λ (o : Order). o.transition.new) c.self.view_is
