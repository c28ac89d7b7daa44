use Rattle.tx_page_change.proofs.Common.{Sets, texts_below, pair_texts, before_of, after_of}
use Rattle.tx_page_change.proofs.table.write_exchange.Given as goal

abbrev pub invariant-loop-index : goal.invariant-loop-index
invariant-loop-index g l = Sets g.W.PageSink.seen l.initial.sink l.sink (texts_below l.index (pair_texts l.plan (before_of l.between) (after_of l.between) l.exchange))
