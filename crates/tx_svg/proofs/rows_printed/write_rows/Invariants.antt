use Rattle.tx_svg.proofs.Common.{Sets, texts_below, row_texts}
use Rattle.tx_svg.proofs.rows_printed.write_rows.Given as goal

abbrev pub invariant-loop-index : goal.invariant-loop-index
invariant-loop-index g l = Sets g.W.PageSink.seen l.initial.sink l.sink (texts_below l.index (row_texts l.plan l.grade l.picture.code))
