use Rattle.tx_order.proofs.Common.{sym, ap, ◌∙◌, is_barred, Transition, has_list, has_bar}
use Rattle.tx_order.proofs.Switched.{bar_new, bar_old}
use Rattle.tx_order.proofs.transition.Transition.is_barred.Goals as goal

pub returns-then-has_bar : goal.returns-then-has_bar
returns-then-has_bar g c =
    let w = c.args.self.now in
    c.is_barred.ensures
    ∙ (ap (λ (w : Transition). is_barred w.new c.args.exchange c.args.code) c.self.view_is
    ∙ sym (bar_new w.old w.new (has_list w c.args.front) (has_bar w c.args.front) c.args.exchange c.args.code (sym c.has_bar.ensures ∙ c.if-has_bar.true)))

pub returns-else-has_bar : goal.returns-else-has_bar
returns-else-has_bar g c =
    let w = c.args.self.now in
    c.is_barred-else-has_bar.ensures
    ∙ (ap (λ (w : Transition). is_barred w.old c.args.exchange c.args.code) c.self.view_is
    ∙ sym (bar_old w.old w.new (has_list w c.args.front) (has_bar w c.args.front) c.args.exchange c.args.code (sym c.has_bar.ensures ∙ c.if-has_bar.false)))
