use Rattle.tx_change.proofs.Common.{◌≡◌, ◌++◌, take, filter, keeps_route}
use Rattle.tx_change.proofs.mixing.add_routes.Given as goal

abbrev pub invariant-loop-index : goal.invariant-loop-index
invariant-loop-index g l = l.routes ≡ l.initial.routes ++ filter (keeps_route l.from_new (g.M.Mixing.listed l.mixing)) (take l.index l.from.routes)
