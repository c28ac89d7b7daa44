use Rattle.tx_mend.proofs.Common.{take, flat_map, Puts, unserved_line}
use Rattle.tx_mend.proofs.unserved.write_each.Given as goal

abbrev pub invariant-loop-i : goal.invariant-loop-i
invariant-loop-i g l = Puts g.W.Sink.taken g.W.Sink.failed l.initial.sink l.sink (flat_map (unserved_line l.plan) (take l.i l.unserved))
