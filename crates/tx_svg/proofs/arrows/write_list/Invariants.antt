use Rattle.tx_svg.proofs.Common.{[], Sets}
use Rattle.tx_svg.proofs.arrows.write_list.Given as goal

abbrev pub invariant-loop-i : goal.invariant-loop-i
invariant-loop-i g l = Sets g.W.PageSink.seen l.initial.sink l.sink []
