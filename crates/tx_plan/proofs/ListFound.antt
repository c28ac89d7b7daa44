-- The list of a route is found by its exchange and code, and keeps the rules of routes.
use Rattle.tx_plan.proofs.Common.{◌≡◌, ◌≢◌, ◌∙◌, ◌⊎◌, ℕ, zero, suc, ◌<◌, ◌≤◌, ◌==◌, ◌&&◌, Bool, true, false, cond, eqb-true, List, [], ◌∷◌, length, Option, Some, None, refl, sym, ap, subst, inl, inr, arith, find, slice_get, option_map_or, Plan, Route, Among, may_seize, EachPair, IsPlan, IsRoute, route_list}
use Rattle.std.proofs.lemmas.Bool.{and_from, and_left, and_right, and_parts, eq-eqb, ne_eqb, cases_eq}
use Rattle.tx_plan.proofs.Among.{all_among}
use Rattle.tx_plan.proofs.ByIndex.{all_at}

found_at : (r : Route) (rs : List Route) (k : ℕ) → EachPair (λ q s. q.exchange ≡ s.exchange → q.code ≢ s.code) rs → slice_get rs k ≡ Some r → find (λ q. (q.exchange == r.exchange) && (q.code == r.code)) rs ≡ Some r
found_at r [] k d at = absurd (let z : ⊥ = cc in z)
found_at r (q ∷ rs) zero d at =
    let s : q ≡ r = cc in
    let t = and_from (q.exchange == r.exchange) (q.code == r.code) (eq-eqb q.exchange r.exchange (ap (λ (y : Route). y.exchange) s)) (eq-eqb q.code r.code (ap (λ (y : Route). y.code) s)) in
    rw t at
found_at r (q ∷ rs) (suc k) d at =
    let apart = all_at (λ s. q.exchange ≡ s.exchange → q.code ≢ s.code) rs k r d.0 at in
    let t : ((q.exchange == r.exchange) && (q.code == r.code)) ≡ false =
    elim (cases_eq q.exchange r.exchange) [
      | inr n ↦ and_left (q.exchange == r.exchange) (q.code == r.code) (ne_eqb q.exchange r.exchange n)
      | inl m ↦ and_right (q.exchange == r.exchange) (q.code == r.code) (ne_eqb q.code r.code (apart m))
    ] in
    rw t (found_at r rs k d.1 at)

pub list_found : (p : Plan) (i : ℕ) (r : Route) → IsPlan p → slice_get p.routes i ≡ Some r → route_list p r.exchange r.code ≡ r.groups
list_found p i r h e = ap (λ o. option_map_or (λ (q : Route). q.groups) o []) (found_at r p.routes i h.routes_differ e)

-- the route that was found is one of them
pub record IsFoundRoute (p : Plan) (x c : ℕ) : Type 0 where
  pub route : Route
  pub among : Among route p.routes
  pub exchange : route.exchange ≡ x
  pub code : route.code ≡ c
  pub groups : route_list p x c ≡ route.groups

pub found_among : (t : Route → Bool) (xs : List Route) (z : Route) → find t xs ≡ Some z → Among z xs × (t z ≡ true)
found_among t [] z h = absurd (let bad : ⊥ = cc in bad)
found_among t (x ∷ xs) z h =
    elim (t x) as (λ b. t x ≡ b → cond b (Some x) (find t xs) ≡ Some z → Among z (x ∷ xs) × (t z ≡ true)) [
      | true ↦ λ tx e. let same : x ≡ z = cc in (inl same, ap t (sym same) ∙ tx)
      | false ↦ λ tx e. let i = found_among t xs z e in (inr i.0, i.1)
    ] refl h

-- an exchange lists nothing for a code, or has a route for it
pub list_cases : (p : Plan) (x c : ℕ) → (route_list p x c ≡ []) ⊎ IsFoundRoute p x c
list_cases p x c = by_find (find (λ r. (r.exchange == x) && (r.code == c)) p.routes) refl
  where
    by_find : (o : Option Route) → find (λ (r : Route). (r.exchange == x) && (r.code == c)) p.routes ≡ o → (route_list p x c ≡ []) ⊎ IsFoundRoute p x c
    by_find None e = inl (ap (λ (o : Option Route). option_map_or (λ (r : Route). r.groups) o []) e)
    by_find (Some r) e =
        let f = found_among (λ (k : Route). (k.exchange == x) && (k.code == c)) p.routes r e in
        let b = and_parts (r.exchange == x) (r.code == c) f.1 in
        inr (record { route = r; among = f.0; exchange = eqb-true r.exchange x b.0; code = eqb-true r.code c b.1; groups = ap (λ (o : Option Route). option_map_or (λ (r : Route). r.groups) o []) e })

-- an exchange with a list is one of the plan
pub listed_within : (p : Plan) → IsPlan p → (x c g : ℕ) → Among g (route_list p x c) → x < length p.exchanges
listed_within p ok x c g m = elim (list_cases p x c) [
  | inl e ↦ absurd (subst (λ (l : List ℕ). Among g l) e m)
  | inr f ↦ (let w = (all_among (IsRoute p) p.routes f.route ok.routes f.among).exchange in let s = f.exchange in omega arith)
]

-- what the rules say of lists
module _ (p : Plan) (ok : IsPlan p) (x c : ℕ) where
  pub list_seizes : (g : ℕ) → Among g (route_list p x c) → may_seize p g x ≡ true
  list_seizes g m = elim (list_cases p x c) [
    | inl e ↦ absurd (subst (λ (l : List ℕ). Among g l) e m)
    | inr f ↦ (let r = all_among (IsRoute p) p.routes f.route ok.routes f.among in
        ap (may_seize p g) (sym f.exchange) ∙ all_among (λ (h : ℕ). may_seize p h f.route.exchange ≡ true) f.route.groups g r.outgoing (subst (λ (l : List ℕ). Among g l) f.groups m))
  ]

  pub list_few : length (route_list p x c) ≤ 16
  list_few = elim (list_cases p x c) [
    | inl e ↦ subst (λ (l : List ℕ). length l ≤ 16) (sym e) (omega arith)
    | inr f ↦ subst (λ (l : List ℕ). length l ≤ 16) (sym f.groups) (all_among (IsRoute p) p.routes f.route ok.routes f.among).few
  ]
