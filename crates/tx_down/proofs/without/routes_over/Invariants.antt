use Rattle.std.proofs.Common.{◌≡◌, take}
use Rattle.tx_down.proofs.NextRoute.{over}
use Rattle.tx_down.proofs.without.routes_over.Given as goal

abbrev pub invariant-loop-index : goal.invariant-loop-index
invariant-loop-index g l = l.routes ≡ over l.network l.plan (take l.index l.plan.routes)
