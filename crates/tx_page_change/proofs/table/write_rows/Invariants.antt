use Rattle.tx_page_change.proofs.Common.{Sets, texts_below, before_of, after_of}
use Rattle.tx_page_change.specs.ChangeTexts.{exchange_texts}
use Rattle.tx_page_change.proofs.table.write_rows.Given as goal

abbrev pub invariant-loop-index : goal.invariant-loop-index
invariant-loop-index g l = Sets g.W.PageSink.seen l.initial.sink l.sink (texts_below l.index (exchange_texts l.plan (before_of l.between) (after_of l.between)))
