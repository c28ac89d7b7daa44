use Rattle.tx_mend.proofs.Common.{◌≡◌, ◌++◌, filter, flat_map, full_route, present_pairs, absent_below, pairs_for, is_absent}
use Rattle.tx_mend.proofs.rerouting.add_absent.Given as goal

abbrev pub invariant-loop-index : goal.invariant-loop-index
invariant-loop-index g l = l.routes ≡ flat_map (full_route l.plan l.basis.limits.limit l.basis.limits.spare) (present_pairs l.plan ++ (absent_below l.plan l.code ++ filter (is_absent l.plan) (pairs_for l.index l.code)))
