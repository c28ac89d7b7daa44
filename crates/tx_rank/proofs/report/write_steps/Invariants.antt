use Rattle.tx_rank.proofs.Common.{take, flat_map, Puts, step_text}
use Rattle.tx_rank.proofs.report.write_steps.Given as goal

abbrev pub invariant-loop-i : goal.invariant-loop-i
invariant-loop-i g l = Puts g.W.Sink.taken g.W.Sink.failed l.initial.sink l.sink (flat_map (step_text l.plan) (take l.i l.steps))
