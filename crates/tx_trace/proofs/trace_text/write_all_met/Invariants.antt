use Rattle.tx_trace.proofs.Common.{take, flat_map, Puts, met_lines, rank_told}
use Rattle.tx_trace.proofs.trace_text.write_all_met.Given as goal

abbrev pub invariant-loop-i : goal.invariant-loop-i
invariant-loop-i g l =
    Puts g.W.Sink.taken g.W.Sink.failed l.initial.sink l.sink (flat_map (met_lines l.plan l.trace.code (rank_told l.trace.ranks l.trace.code)) (take l.i l.met))
