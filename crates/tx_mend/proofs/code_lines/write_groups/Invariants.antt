use Rattle.tx_mend.proofs.Common.{take, flat_map, Puts, missing_for_code}
use Rattle.tx_mend.proofs.code_lines.write_groups.Given as goal

abbrev pub invariant-loop-i : goal.invariant-loop-i
invariant-loop-i g l = Puts g.W.Sink.taken g.W.Sink.failed l.initial.sink l.sink (flat_map (missing_for_code l.plan l.code) (take l.i l.missing))
