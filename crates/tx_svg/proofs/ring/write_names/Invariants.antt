use Rattle.tx_svg.proofs.Common.{Sets, texts_below, name_texts}
use Rattle.tx_svg.proofs.ring.write_names.Given as goal

abbrev pub invariant-loop-index : goal.invariant-loop-index
invariant-loop-index g l = Sets g.W.PageSink.seen l.initial.sink l.sink (texts_below l.index (name_texts l.plan))
