use Rattle.tx_mend.proofs.Common.{◌≡◌, take, flat_map, settled_route}
use Rattle.tx_mend.proofs.settling.settled_routes.Given as goal

abbrev pub invariant-loop-index : goal.invariant-loop-index
invariant-loop-index g l = l.routes ≡ flat_map (settled_route l.before l.cert) (take l.index l.plan.routes)
