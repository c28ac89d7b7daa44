use Rattle.tx_rank.proofs.Common.{take, flat_map, Puts, code_line}
use Rattle.tx_rank.proofs.grade_text.write_codes.Given as goal

abbrev pub invariant-loop-i : goal.invariant-loop-i
invariant-loop-i g l = Puts g.W.Sink.taken g.W.Sink.failed l.initial.sink l.sink (flat_map (code_line l.plan) (take l.i l.codes))
