use Rattle.tx_join.proofs.Common.{Puts, circuits_lines, each_written}
use Rattle.tx_join.proofs.differences.write_circuits.Given as goal

abbrev pub invariant-loop-index : goal.invariant-loop-index
invariant-loop-index g l =
    Puts g.W.Sink.taken g.W.Sink.failed l.initial.sink l.sink (each_written (circuits_lines l.grows l.old l.new) l.index)
