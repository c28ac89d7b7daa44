use Rattle.tx_change.proofs.Common.{Route, among_at, keeps_route}
use Rattle.tx_change.proofs.Kept.{kept_next, next_new}
use Rattle.tx_change.proofs.mixing.add_routes.Goals as goal

pub add_route-requires : goal.add_route-requires
add_route-requires g c = λ r at keeps.
    next_new (λ (r : Route). r.exchange) (λ r. r.code) (keeps_route c.args.from_new (g.M.Mixing.listed c.args.mixing.now)) c.args.routes.now c.loop-index.routes c.args.from.now.routes c.loop-index.index r c.routes-index-end.ensures.rules.routes_differ at c.loop-index.invariant
    (c.requires r (among_at c.args.from.now.routes c.loop-index.index r at) keeps)

pub loop-index-preserved : goal.loop-index-preserved
loop-index-preserved g c =
    kept_next (keeps_route c.args.from_new (g.M.Mixing.listed c.args.mixing.now)) c.args.routes.now c.loop-index.routes c.add_route.new.routes c.args.from.now.routes c.loop-index.index c.loop-index.invariant c.in_ok-add_route.ensures
