use Rattle.tx_rank.proofs.Common.{ranks_of, net_of, AreBounds}
use Rattle.tx_rank.proofs.Bounding.{SuitsBelow}
use Rattle.tx_rank.proofs.code_bounds.code_bounds.Given as goal

abbrev pub invariant-loop-index : goal.invariant-loop-index
invariant-loop-index g l = AreBounds (SuitsBelow (net_of l.plan l.code) (ranks_of l.cert l.code) l.index) l.bounds
