use Rattle.tx_order.proofs.Common.{ap, ◌∙◌, route_list, plan_front, Order, fronts_before}
use Rattle.tx_order.proofs.TwoFronts.{list_by_front}
use Rattle.tx_order.proofs.orders.Order.list.Goals as goal

pub returns : goal.returns
returns g c =
    let o = c.args.self.now in
    c.list.ensures
    ∙ (ap (λ (o : Order). route_list (plan_front o.transition c.front.result) c.args.exchange c.args.code) c.self.view_is
    ∙ list_by_front o.transition (fronts_before o c.args.stage) c.args.exchange c.args.code c.front.result c.front.ensures)
