use Rattle.tx_order.proofs.Common.{ap, ◌∙◌, is_barred, plan_front, Order, fronts_before}
use Rattle.tx_order.proofs.TwoFronts.{bar_by_front}
use Rattle.tx_order.proofs.orders.Order.is_barred.Goals as goal

pub returns : goal.returns
returns g c =
    let o = c.args.self.now in
    c.is_barred.ensures
    ∙ (ap (λ (o : Order). is_barred (plan_front o.transition c.front.result) c.args.exchange c.args.code) c.self.view_is
    ∙ bar_by_front o.transition (fronts_before o c.args.stage) c.args.exchange c.args.code c.front.result c.front.ensures)
