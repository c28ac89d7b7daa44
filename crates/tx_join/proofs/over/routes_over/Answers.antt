use Rattle.tx_join.proofs.Common.{List, ◌++◌, false, true, ◌∙◌, ap, sym, subst, Route, taken_routes, RoutesDiffer}
use Rattle.tx_join.proofs.Splits.{routes_split, own_routes_differ, all_routes_differ}
use Rattle.tx_join.proofs.over.routes_over.Goals as goal

pub add_routes-requires : goal.add_routes-requires
add_routes-requires g c =
    let j = c.args.network.now in
    let own = c.args.own.now in
    subst (λ (l : List Route). RoutesDiffer (l ++ taken_routes j own own true)) (sym c.new-routes.ensures) (own_routes_differ j own c.args.other.now c.requires)

pub add_routes-requires-2 : goal.add_routes-requires-2
add_routes-requires-2 g c =
    let j = c.args.network.now in
    let own = c.args.own.now in
    let other = c.args.other.now in
    subst (λ (l : List Route). RoutesDiffer (l ++ taken_routes j own other false)) (sym (c.in_ok-add_routes.ensures ∙ ap (λ (l : List Route). l ++ taken_routes j own own true) c.new-routes.ensures)) (all_routes_differ j own other c.requires)

pub returns : goal.returns
returns g c =
    let j = c.args.network.now in
    let own = c.args.own.now in
    let other = c.args.other.now in
    c.in_ok-add_routes-2.ensures ∙ ap (λ (l : List Route). l ++ taken_routes j own other false) (c.in_ok-add_routes.ensures ∙ ap (λ (l : List Route). l ++ taken_routes j own own true) c.new-routes.ensures) ∙ sym (routes_split j own other)
