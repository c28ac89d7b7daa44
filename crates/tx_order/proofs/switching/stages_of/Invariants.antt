use Rattle.tx_order.specs.Ordered.{AreStagesBelow}
use Rattle.tx_order.proofs.switching.stages_of.Given as goal

abbrev pub invariant-loop-index : goal.invariant-loop-index
invariant-loop-index g l = AreStagesBelow l.transition l.index l.ends.items
