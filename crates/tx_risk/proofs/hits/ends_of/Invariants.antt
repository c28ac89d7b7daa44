use Rattle.tx_risk.proofs.Common.{marked, AreEnds}
use Rattle.tx_risk.proofs.hits.ends_of.Given as goal

abbrev pub invariant-loop-index : goal.invariant-loop-index
invariant-loop-index g l = AreEnds l.plan (marked l.gone) l.index l.ends.items
