use Rattle.tx_order.proofs.Common.{sym, ap, ◌∙◌, route_list, Transition, has_list, has_bar}
use Rattle.tx_order.proofs.Switched.{list_new, list_old}
use Rattle.tx_order.proofs.transition.Transition.list.Goals as goal

pub returns-then-has_list : goal.returns-then-has_list
returns-then-has_list g c =
    let w = c.args.self.now in
    c.list.ensures.value
    ∙ (ap (λ (w : Transition). route_list w.new c.args.exchange c.args.code) c.self.view_is
    ∙ sym (list_new w.old w.new (has_list w c.args.front) (has_bar w c.args.front) c.args.exchange c.args.code (sym c.has_list.ensures ∙ c.if-has_list.true)))

pub returns-else-has_list : goal.returns-else-has_list
returns-else-has_list g c =
    let w = c.args.self.now in
    c.list-else-has_list.ensures.value
    ∙ (ap (λ (w : Transition). route_list w.old c.args.exchange c.args.code) c.self.view_is
    ∙ sym (list_old w.old w.new (has_list w c.args.front) (has_bar w c.args.front) c.args.exchange c.args.code (sym c.has_list.ensures ∙ c.if-has_list.false)))
