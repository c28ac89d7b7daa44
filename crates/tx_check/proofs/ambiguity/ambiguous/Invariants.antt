use Rattle.tx_plan.proofs.FirstPair.{NoneBelow}
use Rattle.tx_check.proofs.ambiguity.ambiguous.Given as goal

abbrev pub invariant-loop-number : goal.invariant-loop-number
invariant-loop-number g l = NoneBelow l.plan.codes l.number
