use Rattle.std.proofs.Common.{◌≡◌, take}
use Rattle.tx_plan.proofs.copying.routes_of.Given as goal

abbrev pub invariant-loop-index : goal.invariant-loop-index
invariant-loop-index g l = l.routes ≡ take l.index l.plan.routes
