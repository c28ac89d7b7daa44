use Rattle.tx_svg.proofs.Common.{[], Sets}
use Rattle.tx_svg.proofs.ring.write_lines.Given as goal

abbrev pub invariant-loop-index : goal.invariant-loop-index
invariant-loop-index g l = Sets g.W.PageSink.seen l.initial.sink l.sink []
