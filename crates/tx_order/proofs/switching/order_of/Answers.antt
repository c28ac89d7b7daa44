use Rattle.tx_order.proofs.Common.{ℕ, ◌<◌, sym, subst, Order, stages_in, HasCleared}
use Rattle.tx_order.proofs.switching.order_of.Goals as goal

pub returns-clause-cleared : goal.returns-clause-cleared
returns-clause-cleared g c = subst (λ (o : Order). (s : ℕ) → s < stages_in o → HasCleared o s) (sym c.in_ok-order.ensures.same) c.in_ok-order.ensures.cleared
