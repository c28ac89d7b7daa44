use Rattle.tx_order.proofs.Common.{AreJoinedBelow, plan_front}
use Rattle.tx_order.proofs.between.joined_lists.Given as goal

abbrev pub invariant-loop-index : goal.invariant-loop-index
invariant-loop-index g l = AreJoinedBelow (plan_front l.transition l.from) (plan_front l.transition l.to) l.code l.index l.lists.items
