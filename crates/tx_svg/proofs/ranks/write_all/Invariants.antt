use Rattle.tx_svg.proofs.Common.{Sets, texts_below, column_texts}
use Rattle.tx_svg.proofs.ranks.write_all.Given as goal

abbrev pub invariant-loop-below : goal.invariant-loop-below
invariant-loop-below g l = Sets g.W.PageSink.seen l.initial.sink l.sink (texts_below l.below column_texts)
