use Rattle.tx_plan.proofs.Common.{◌∙◌, ap, refl, map, ◌++◌, ◌∷◌, [], List, list_any, map_push, Route, route_of_row}
use Rattle.tx_plan.proofs.Lookups.{entry_last}
use Rattle.tx_plan.proofs.PairRows.{same_pair, is_route, any_route}
use Rattle.tx_plan.proofs.routes.Routes.add.Goals as goal

pub returns-clause-ok : goal.returns-clause-ok
returns-clause-ok g c =
    let p = c.args.pair in
    let entries = c.self.inside.rows.entries in
    let absent = any_route p entries ∙ ap (list_any (is_route p)) c.self.view_is ∙ c.requires in
    ap (map route_of_row) (c.in_ok-insert.ensures.entries ∙ entry_last same_pair c.self.inside.rows entries p c.args.groups refl absent)
    ∙ map_push route_of_row entries (p, c.args.groups) ∙ ap (λ (rs : List Route). rs ++ route_of_row (p, c.args.groups) ∷ []) c.self.view_is
