use Rattle.tx_risk.proofs.Common.{take, left_net, AreDeadEndsKept}
use Rattle.tx_risk.proofs.nearest.dead_ends_kept.Given as goal

abbrev pub invariant-loop-end : goal.invariant-loop-end
invariant-loop-end g l = AreDeadEndsKept (left_net l.left) (take l.end-index l.dead_ends) l.kept.items
