use Rattle.tx_change.proofs.Common.{sym, ap, ◌∙◌, slice_get, keeps, keeps_route}
use Rattle.tx_change.proofs.Kept.{route_is, keeps_test, groups_alike, entry_added}
use Rattle.tx_change.proofs.mixing.add_route.Goals as goal

pub returns-else-has_list-from_new : goal.returns-else-has_list-from_new
returns-else-has_list-from_new g c =
    let p = c.args.from.now in
    let s = keeps_route c.args.from_new (g.M.Mixing.listed c.args.mixing.now) in
    let at = route_is p c.in-Some.ensures.rules c.args.index _ c.in-Some.ensures.value in
    entry_added s (slice_get p.routes c.args.index) _ _ c.args.routes.now c.add.new.self c.add.result c.add.ensures.ok
    (groups_alike _ _ _ _ c.group_list.ensures) at
    (ap (keeps c.args.from_new) (sym c.has_list.ensures) ∙ keeps_test c.args.from_new c.has_list.result c.if-has_list-from_new.false)
