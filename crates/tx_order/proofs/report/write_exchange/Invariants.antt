use Rattle.tx_order.proofs.Common.{◌+◌, flat_map, range_with_len, Puts, plan_before, entry_lines}
use Rattle.tx_order.proofs.report.write_exchange.Given as goal

abbrev pub invariant-loop-index : goal.invariant-loop-index
invariant-loop-index g l = Puts g.W.Sink.taken g.W.Sink.failed l.initial.sink l.sink (flat_map (entry_lines l.order.transition.new (plan_before l.order l.stage) (plan_before l.order (l.stage + 1)) l.exchange) (range_with_len 0 l.index))
