-- A plan of which some groups are down.
use Rattle.tx_trace.proofs.Common.{◌≡◌, ◌≢◌, ℕ, ◌+◌, ◌≤◌, Bool, true, false, cond, not, ◌||◌, ◌==◌, ◌&&◌, List, [], ◌∷◌, ◌++◌, map, take, length, Some, refl, sym, ap, subst, ◌∙◌, arith, append-nil, filter, slice_get, list_any, AllByRecursion, not-true, eqb-false, map-append, filter-append, Plan, Route, take_next, is_in, groups_left, route_left, routes_left, plan_left}
use Rattle.std.proofs.lemmas.List.Sums.{length-filter, count_by-le-length}
use Rattle.tx_plan.specs.Rules.{EachPair, IsPlan, IsRoute}
use Rattle.tx_plan.specs.Circuits.{may_seize}
use Rattle.tx_plan.proofs.Filtered.{all_kept, pairs_kept}
use Rattle.tx_plan.proofs.Rerouted.{kept_rerouted}

-- a route has groups
abbrev pub has_some : Route → Bool
has_some r = not (length r.groups == 0)

-- two routes are of different exchanges or codes
abbrev Apart : Route → Route → Type 0
Apart r q = r.exchange ≡ q.exchange → r.code ≢ q.code

module _ (p : Plan) (down : List ℕ) where
  -- ITS RULES
  few_left : (groups : List ℕ) → length (groups_left down groups) ≤ length groups
  few_left groups =
      let t : ℕ → Bool = λ g. not (is_in g down) in
      subst (λ (n : ℕ). n ≤ length groups) (sym (length-filter t groups)) (count_by-le-length t groups)

  route_over : (r : Route) → IsRoute p r → has_some (route_left down r) ≡ true
      → IsRoute p (route_left down r)
  route_over r h some =
      let n = length (groups_left down r.groups) in
      let less = few_left r.groups in
      let most = h.few in
      let other : n ≢ 0 = eqb-false n 0 (not-true (n == 0) some) in
      record {
        exchange = h.exchange;
        code = h.code;
        away = h.away;
        some = omega (arith, other);
        few = omega (arith, less, most);
        outgoing = all_kept (λ g. may_seize p g r.exchange ≡ true) (λ g. not (is_in g down)) r.groups
            h.outgoing;
        differ = pairs_kept (λ g k. g ≢ k) (λ g. not (is_in g down)) r.groups h.differ;
      }

  routes_over : (rs : List Route) → AllByRecursion (IsRoute p) rs
      → AllByRecursion (IsRoute p) (routes_left down rs)
  routes_over [] a = tt
  routes_over (r ∷ rs) a =
      let rest = routes_over rs a.1 in
      elim (has_some (route_left down r)) as (λ b. has_some (route_left down r) ≡ b
      → AllByRecursion (IsRoute p) (cond b (route_left down r ∷ routes_left down rs)
      (routes_left down rs))) [
        | true ↦ λ e. (route_over r a.0 e, rest)
        | false ↦ λ e. rest
      ] refl

  all_apart : (r : Route) (rs : List Route) → AllByRecursion (Apart r) rs
      → AllByRecursion (Apart (route_left down r)) (map (route_left down) rs)
  all_apart r [] a = tt
  all_apart r (q ∷ rs) a = (a.0, all_apart r rs a.1)

  pairs_apart : (rs : List Route) → EachPair Apart rs → EachPair Apart (map (route_left down) rs)
  pairs_apart [] a = tt
  pairs_apart (r ∷ rs) a = (all_apart r rs a.0, pairs_apart rs a.1)

  pub left_rules : IsPlan p → IsPlan (plan_left p down)
  left_rules ok = kept_rerouted p ok (routes_left down p.routes) (record {
    each = routes_over p.routes ok.routes;
    differ = pairs_kept Apart has_some (map (route_left down) p.routes)
        (pairs_apart p.routes ok.routes_differ);
  })

module _ (down : List ℕ) where
  -- ONE ROUTE MORE
  left_more : (rs : List Route) (i : ℕ) (r : Route) → slice_get rs i ≡ Some r
      → routes_left down (take (i + 1) rs)
      ≡ routes_left down (take i rs) ++ filter has_some (route_left down r ∷ [])
  left_more rs i r at =
      ap (routes_left down) (take_next rs i r at)
      ∙ ap (filter has_some) (map-append (route_left down) (take i rs) (r ∷ []))
      ∙ filter-append has_some (map (route_left down) (take i rs)) (route_left down r ∷ [])

  pub left_next : (rs old new : List Route) (i : ℕ) (r : Route) → slice_get rs i ≡ Some r
      → (left : List ℕ) → left ≡ groups_left down r.groups → has_some (route_left down r) ≡ true
      → old ≡ routes_left down (take i rs) → new ≡ old ++ record r { groups = left } ∷ []
      → new ≡ routes_left down (take (i + 1) rs)
  left_next rs old new i r at left is some so more =
      more ∙ ap (λ gs. old ++ record r { groups = gs } ∷ []) is
      ∙ ap (λ l. l ++ route_left down r ∷ []) so
      ∙ ap (λ b. routes_left down (take i rs) ++ cond b (route_left down r ∷ []) []) (sym some)
      ∙ sym (left_more rs i r at)

  pub left_gone : (rs old new : List Route) (i : ℕ) (r : Route) → slice_get rs i ≡ Some r
      → has_some (route_left down r) ≡ false → old ≡ routes_left down (take i rs)
      → new ≡ old → new ≡ routes_left down (take (i + 1) rs)
  left_gone rs old new i r at none so same =
      same ∙ so ∙ sym (append-nil (routes_left down (take i rs)))
      ∙ ap (λ b. routes_left down (take i rs) ++ cond b (route_left down r ∷ []) []) (sym none)
      ∙ sym (left_more rs i r at)

  -- none of them is of a pair of which none was
  pub none_left : (x c : ℕ) (rs : List Route)
      → list_any (λ r. (r.exchange == x) && (r.code == c)) rs ≡ false
      → list_any (λ r. (r.exchange == x) && (r.code == c)) (map (route_left down) rs) ≡ false
  none_left x c [] h = refl
  none_left x c (r ∷ rs) h =
      elim ((r.exchange == x) && (r.code == c)) as (λ b.
      (b || list_any (λ r. (r.exchange == x) && (r.code == c)) rs) ≡ false
      → (b || list_any (λ r. (r.exchange == x) && (r.code == c)) (map (route_left down) rs)) ≡ false) [
        | true ↦ λ e. e
        | false ↦ λ e. none_left x c rs e
      ] h
