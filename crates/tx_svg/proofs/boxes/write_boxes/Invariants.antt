use Rattle.tx_svg.proofs.Common.{Sets, texts_below, box_texts}
use Rattle.tx_svg.proofs.boxes.write_boxes.Given as goal

abbrev pub invariant-loop-index : goal.invariant-loop-index
invariant-loop-index g l = Sets g.W.PageSink.seen l.initial.sink l.sink (texts_below l.index (box_texts l.plan l.picture.code))
