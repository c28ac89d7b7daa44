use Rattle.tx_page_change.proofs.Common.{Sets, texts_below, group_circuits_texts}
use Rattle.tx_page_change.proofs.steps.write_circuits.Given as goal

abbrev pub invariant-loop-index : goal.invariant-loop-index
invariant-loop-index g l = Sets g.W.PageSink.seen l.initial.sink l.sink (texts_below l.index (group_circuits_texts l.grows l.old l.new))
