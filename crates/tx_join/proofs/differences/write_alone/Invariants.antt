use Rattle.tx_join.proofs.Common.{Puts, entry_lines, each_written}
use Rattle.tx_join.proofs.differences.write_alone.Given as goal

abbrev pub invariant-loop-index : goal.invariant-loop-index
invariant-loop-index g l =
    Puts g.W.Sink.taken g.W.Sink.failed l.initial.sink l.sink (each_written (entry_lines l.entries l.word l.plan l.other) l.index)
