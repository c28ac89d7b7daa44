use Rattle.tx_mend.proofs.Common.{◌≡◌, take, flat_map, full_route, present_pairs}
use Rattle.tx_mend.proofs.rerouting.add_present.Given as goal

abbrev pub invariant-loop-index : goal.invariant-loop-index
invariant-loop-index g l = l.routes ≡ flat_map (full_route l.plan l.basis.limits.limit l.basis.limits.spare) (take l.index (present_pairs l.plan))
