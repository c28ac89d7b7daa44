use Rattle.tx_trace.proofs.Common.{take, flat_map, Puts, only_line}
use Rattle.tx_trace.proofs.way_changes_text.write_only.Given as goal

abbrev pub invariant-loop-i : goal.invariant-loop-i
invariant-loop-i g l =
    Puts g.W.Sink.taken g.W.Sink.failed l.initial.sink l.sink (flat_map (only_line l.word l.plan l.other l.others) (take l.i l.met))
