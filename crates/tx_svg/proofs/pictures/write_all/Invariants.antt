use Rattle.tx_svg.proofs.Common.{take, Sets, picture_texts}
use Rattle.std.specs.List.{flat_map}
use Rattle.tx_svg.proofs.pictures.write_all.Given as goal

abbrev pub invariant-loop-i : goal.invariant-loop-i
invariant-loop-i g l = Sets g.W.PageSink.seen l.initial.sink l.sink (flat_map (picture_texts l.plan l.grade) (take l.i l.pictures))
