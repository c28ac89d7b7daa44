use Rattle.tx_trace.proofs.Common.{take, flat_map, Puts, calls_of, change_of}
use Rattle.tx_trace.proofs.way_changes_text.write_changes.Given as goal

abbrev pub invariant-loop-i : goal.invariant-loop-i
invariant-loop-i g l =
    Puts g.W.Sink.taken g.W.Sink.failed l.initial.sink l.sink (flat_map (λ w. change_of l.plan l.old (calls_of w)) (take l.i l.changes))
