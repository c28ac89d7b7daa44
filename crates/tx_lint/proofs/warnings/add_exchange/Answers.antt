use Rattle.tx_lint.proofs.Common.{◌∙◌, ap, IfOk-weaker, NoLines, UnusedList, warned_once, coming_of}
use Rattle.tx_lint.proofs.Warned.{exchange_told}
use Rattle.tx_lint.proofs.warnings.add_exchange.Goals as goal

pub returns : goal.returns
returns g c =
    IfOk-weaker c.add_if.result _ _ (λ x more. exchange_told c.args.plan.now
    (coming_of c.args.marks.now) c.args.exchange c.args.line _ _ c.is_alone-alone.result
    c.args.found.now.items c.add_some.new.found.items c.add_some-2.new.found.items
    c.add_missing_lists.new.found.items c.add_if.new.found.items
    (c.warn_of_mute.ensures ∙ ap (warned_once NoLines) (c.deref.ensures.value ∙ c.in_ok-mute.ensures))
    (c.warn_of_idle.ensures ∙ ap (warned_once UnusedList) (c.deref-2.ensures.value ∙ c.in_ok-idle.ensures))
    c.is_alone-alone.ensures c.in_ok-add_some.ensures c.in_ok-add_some-2.ensures
    c.in_ok-add_missing_lists.ensures more)
    c.add_if.ensures
