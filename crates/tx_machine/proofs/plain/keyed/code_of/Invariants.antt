use Rattle.tx_plan.proofs.Longest.{IsBest}
use Rattle.tx_machine.proofs.plain.keyed.code_of.Given as goal

abbrev pub invariant-loop-index : goal.invariant-loop-index
invariant-loop-index g l = IsBest l.plan l.keyed l.index l.best l.width

abbrev pub decreases-loop-index : goal.decreases-loop-index
decreases-loop-index g l = l.index
