use Rattle.tx_plan.proofs.Common.{◌∙◌, ap, sym, List, [], ℕ, Option, find, ArrayVec, Route}
use Rattle.std.specs.Option.{option_map_or, option_copied}
use Rattle.tx_plan.proofs.PairRows.{is_route, groups_found}
use Rattle.tx_plan.proofs.routes.Routes.list.Goals as goal

pub returns-in-Some-clause-value : goal.returns-in-Some-clause-value
returns-in-Some-clause-value g c =
    let p = c.args.pair.now in
    c.as_slice.ensures.value ∙ ap (λ (o : Option (ArrayVec ℕ)). option_map_or (λ gs. gs.items) o []) (ap option_copied (sym c.in-Some.is) ∙ c.get.ensures.value) ∙ groups_found p c.self.inside.rows.entries
    ∙ ap (λ (rs : List Route). option_map_or (λ r. r.groups) (find (is_route p) rs) []) c.self.view_is

pub returns-in-None-clause-value : goal.returns-in-None-clause-value
returns-in-None-clause-value g c =
    let p = c.args.pair.now in
    ap (λ (o : Option (ArrayVec ℕ)). option_map_or (λ gs. gs.items) o []) (ap option_copied (sym c.in-None.is) ∙ c.get.ensures.value) ∙ groups_found p c.self.inside.rows.entries
    ∙ ap (λ (rs : List Route). option_map_or (λ r. r.groups) (find (is_route p) rs) []) c.self.view_is
