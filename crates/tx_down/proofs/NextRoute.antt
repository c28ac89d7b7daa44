-- One group of a list more, and one route more.
use Rattle.std.proofs.Common.{◌≡◌, ◌≢◌, ℕ, ◌+◌, Bool, true, false, cond, not, ◌||◌, ◌&&◌, ◌==◌, List, [], ◌∷◌, ◌++◌, map, take, length, Option, Some, None, refl, sym, ap, ◌∙◌, append-nil}
use Rattle.tx_join.proofs.Common.{filter, slice_get, list_any, map-append, filter-append, Plan, Route, take_next, group_name, group_named}
use Rattle.tx_down.proofs.Common.{filter_map, cons_option, list_over, route_over}
use Rattle.std.proofs.lemmas.List.Elements.{filter_map-append}
use Rattle.tx_down.proofs.Rules.{has_some}

-- GROUPS

module _ (w p : Plan) (gs old new : List ℕ) (i g : ℕ) (at : slice_get gs i ≡ Some g)
    (so : old ≡ list_over w p (take i gs)) where
  over_more : list_over w p (take (i + 1) gs)
      ≡ list_over w p (take i gs) ++ cons_option (group_named w (group_name p g)) []
  over_more = ap (list_over w p) (take_next gs i g at)
      ∙ filter_map-append (λ h. group_named w (group_name p h)) (take i gs) (g ∷ [])

  pub group_known : (k : ℕ) → group_named w (group_name p g) ≡ Some k → new ≡ old ++ k ∷ []
      → new ≡ list_over w p (take (i + 1) gs)
  group_known k e is = is ∙ ap (λ l. l ++ k ∷ []) so
      ∙ ap (λ o. list_over w p (take i gs) ++ cons_option o []) (sym e) ∙ sym over_more

  pub group_unknown : group_named w (group_name p g) ≡ None → new ≡ old
      → new ≡ list_over w p (take (i + 1) gs)
  group_unknown e is = is ∙ so ∙ sym (append-nil (list_over w p (take i gs)))
      ∙ ap (λ o. list_over w p (take i gs) ++ cons_option o []) (sym e) ∙ sym over_more

-- ROUTES

module _ (w p : Plan) where
  -- those of some routes that have groups there
  abbrev pub over : List Route → List Route
  over rs = filter has_some (map (route_over w p) rs)

  route_more : (rs : List Route) (i : ℕ) (r : Route) → slice_get rs i ≡ Some r
      → over (take (i + 1) rs) ≡ over (take i rs) ++ filter has_some (route_over w p r ∷ [])
  route_more rs i r at =
      ap over (take_next rs i r at)
      ∙ ap (filter has_some) (map-append (route_over w p) (take i rs) (r ∷ []))
      ∙ filter-append has_some (map (route_over w p) (take i rs)) (route_over w p r ∷ [])

  pub route_next : (rs old new : List Route) (i : ℕ) (r : Route) → slice_get rs i ≡ Some r
      → (list : List ℕ) → list ≡ list_over w p r.groups → has_some (route_over w p r) ≡ true
      → old ≡ over (take i rs) → new ≡ old ++ record r { groups = list } ∷ []
      → new ≡ over (take (i + 1) rs)
  route_next rs old new i r at list is some so more =
      more ∙ ap (λ gs. old ++ record r { groups = gs } ∷ []) is
      ∙ ap (λ l. l ++ route_over w p r ∷ []) so
      ∙ ap (λ b. over (take i rs) ++ cond b (route_over w p r ∷ []) []) (sym some)
      ∙ sym (route_more rs i r at)

  pub route_gone : (rs old new : List Route) (i : ℕ) (r : Route) → slice_get rs i ≡ Some r
      → has_some (route_over w p r) ≡ false → old ≡ over (take i rs) → new ≡ old
      → new ≡ over (take (i + 1) rs)
  route_gone rs old new i r at none so same =
      same ∙ so ∙ sym (append-nil (over (take i rs)))
      ∙ ap (λ b. over (take i rs) ++ cond b (route_over w p r ∷ []) []) (sym none)
      ∙ sym (route_more rs i r at)

  -- none of them is of a pair of which none was
  pub none_over : (x c : ℕ) (rs : List Route)
      → list_any (λ r. (r.exchange == x) && (r.code == c)) rs ≡ false
      → list_any (λ r. (r.exchange == x) && (r.code == c)) (map (route_over w p) rs) ≡ false
  none_over x c [] h = refl
  none_over x c (r ∷ rs) h =
      elim ((r.exchange == x) && (r.code == c)) as (λ b.
      (b || list_any (λ r. (r.exchange == x) && (r.code == c)) rs) ≡ false
      → (b || list_any (λ r. (r.exchange == x) && (r.code == c)) (map (route_over w p) rs)) ≡ false) [
        | true ↦ λ e. e
        | false ↦ λ e. none_over x c rs e
      ] h
