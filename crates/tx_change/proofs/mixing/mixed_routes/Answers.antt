use Rattle.tx_change.proofs.Common.{ap, ◌∙◌, ◌++◌, not, filter, Route, has_route_as}
use Rattle.tx_change.proofs.Kept.{not_before}
use Rattle.tx_change.proofs.mixing.mixed_routes.Goals as goal

pub add_routes-requires-2 : goal.add_routes-requires-2
add_routes-requires-2 g c = λ r m there.
    let old = c.args.old.now in
    let listed = g.M.Mixing.listed c.args.mixing.now in
    let kept = filter (λ q. not (listed q.exchange q.code)) old.routes in
    ap (has_route_as r) (c.in_ok-add_routes.ensures ∙ ap (λ l. l ++ kept) c.new-routes.ensures) ∙ not_before (λ (r : Route). r.exchange) (λ r. r.code) listed r there old.routes
