use Rattle.tx_order.proofs.Common.{◌∙◌, not, bytes_eq}
use Rattle.tx_order.specs.DoneText.{differ}
use Rattle.tx_order.proofs.DoneLines.{where_apart, where_alike, differ_is}
use Rattle.tx_order.proofs.done.switches.Goals as goal

pub returns-then-ne : goal.returns-then-ne
returns-then-ne g c =
    where_apart _ _ _ (c.ne.ensures ∙ (λ i. not (bytes_eq (c.list.ensures i) (c.list-2.ensures i))))
    c.if-ne.true

pub returns-else-ne : goal.returns-else-ne
returns-else-ne g c =
    where_alike _ _ _ _ (c.ne.ensures ∙ (λ i. not (bytes_eq (c.list.ensures i) (c.list-2.ensures i))))
    c.if-ne.false
    (differ_is _ _ ∙ (λ i. differ (c.is_barred-barred.ensures i) (c.is_barred.ensures i)))
