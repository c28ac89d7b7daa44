use Rattle.tx_order.proofs.Common.{flat_map, range_with_len, Puts, stage_text}
use Rattle.tx_order.proofs.report.write_stages.Given as goal

abbrev pub invariant-loop-stage : goal.invariant-loop-stage
invariant-loop-stage g l = Puts g.W.Sink.taken g.W.Sink.failed l.initial.sink l.sink (flat_map (stage_text l.order) (range_with_len 0 l.stage))
