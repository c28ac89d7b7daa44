use Rattle.tx_mend.proofs.Common.{◌≡◌, routes_below}
use Rattle.tx_mend.proofs.rerouting.full_routes.Given as goal

abbrev pub invariant-loop-index : goal.invariant-loop-index
invariant-loop-index g l = l.routes ≡ routes_below l.basis.plan.now l.basis.limits.limit l.basis.limits.spare l.index
