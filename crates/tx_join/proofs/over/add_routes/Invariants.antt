use Rattle.tx_join.proofs.Common.{◌≡◌, ◌++◌, map, take, filter, route_in, takes}
use Rattle.tx_join.proofs.over.add_routes.Given as goal

abbrev pub invariant-loop-index : goal.invariant-loop-index
invariant-loop-index g l = l.routes ≡ l.initial.routes ++ map (route_in l.network l.from) (filter (λ r. takes l.own l.from l.whole r.exchange r.code) (take l.index l.from.routes))
