use Rattle.tx_risk.specs.inner.Cutting.{Adds, AreCutsBefore}
use Rattle.tx_risk.proofs.cutting.add_cuts.Given as goal

abbrev pub invariant-loop-index : goal.invariant-loop-index
invariant-loop-index g l =
    Adds (AreCutsBefore l.left l.outage l.legs.items l.index) l.fn.cuts.items l.cuts.items
