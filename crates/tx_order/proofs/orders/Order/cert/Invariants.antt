use Rattle.tx_order.proofs.Common.{◌+◌, fronts_before, IsCertifiedBelow}
use Rattle.tx_order.proofs.orders.Order.cert.Given as goal

abbrev pub invariant-loop-index : goal.invariant-loop-index
invariant-loop-index g l = IsCertifiedBelow l.self.transition (fronts_before l.self l.stage) (fronts_before l.self (l.stage + 1)) l.index l.cert
