use Rattle.tx_page_change.proofs.Common.{Sets, texts_below, if_alone_texts}
use Rattle.tx_page_change.proofs.steps.write_alone.Given as goal

abbrev pub invariant-loop-index : goal.invariant-loop-index
invariant-loop-index g l = Sets g.W.PageSink.seen l.initial.sink l.sink (texts_below l.index (if_alone_texts l.entries l.word l.plan l.other))
