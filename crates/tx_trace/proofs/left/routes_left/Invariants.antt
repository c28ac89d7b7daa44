use Rattle.tx_trace.proofs.Common.{◌≡◌, take, routes_left}
use Rattle.tx_trace.proofs.left.routes_left.Given as goal

abbrev pub invariant-loop-index : goal.invariant-loop-index
invariant-loop-index g l = l.routes ≡ routes_left l.down (take l.index l.plan.routes)
