use Rattle.tx_order.proofs.Common.{ap, subst, arith, Order, IsOrderKept}
use Rattle.tx_order.proofs.Ordered.{few_stages}
use Rattle.tx_order.proofs.orders.Order.rules.Goals as goal

pub returns-clause-few : goal.returns-clause-few
returns-clause-few g c =
    let o = c.args.self.now in
    let same = ap (λ (o : Order). o.transition.limit) c.self.view_is in
    let kept = few_stages o (subst IsOrderKept c.self.view_is c.self.invariant) in
    let limit = c.limits.ensures.limit in
    let few = c.limits.ensures.few in
    omega arith
