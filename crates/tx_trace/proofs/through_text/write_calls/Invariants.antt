use Rattle.tx_trace.proofs.Common.{take, flat_map, Puts, call_line}
use Rattle.tx_trace.proofs.through_text.write_calls.Given as goal

abbrev pub invariant-loop-i : goal.invariant-loop-i
invariant-loop-i g l =
    Puts g.W.Sink.taken g.W.Sink.failed l.initial.sink l.sink (flat_map (call_line l.plan) (take l.i l.calls))
