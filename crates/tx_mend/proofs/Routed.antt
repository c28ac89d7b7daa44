-- The routes of lists: what they list, and that they obey the rules.
use Rattle.tx_mend.proofs.Common.{◌≡◌, ◌≢◌, ℕ, ◌<◌, ◌≤◌, ◌⊎◌, Bool, true, false, not, cond, ◌==◌, ◌&&◌, eqb-true, eq-eqb, List, [], ◌∷◌, ◌++◌, length, map, Some, inl, inr, refl, sym, ap, subst, ◌∙◌, arith, filter, find, AllByRecursion, flat_map, list_any, option_map_or, and_parts, and_from, or_cases, or_left, or_right, false≢true, not-true, Plan, Route, home_of, IsPlan, IsRoute, EachPair, route_list, may_seize, has_route, Among, among_right, among_left, among_cases, among_map, map_among, among_filter, filter_among, among_flat, flat_among, all_among, among_all, rerouted, indexes, all_pairs, pairs_of, route_if, routes_of, pairs_kept, AllDiffer}
use Rattle.tx_mend.proofs.Distinct.{among_range, range_among, range_differs, pairs_append}
use Rattle.tx_mend.proofs.LeastLists.{IsList}

-- two pairs differ
abbrev pub Apart : ℕ × ℕ → ℕ × ℕ → Type 0
Apart a b = a.0 ≡ b.0 → a.1 ≢ b.1

-- WHAT THEY LIST

module _ (lists : ℕ → ℕ → List ℕ) where
  abbrev pub routed : ℕ × ℕ → List Route
  routed k = route_if k (lists k.1 k.0)

  module _ (x c : ℕ) where
    abbrev at : Route → Bool
    at r = (r.exchange == x) && (r.code == c)

    abbrev pub looked : List Route → List ℕ
    looked routes = option_map_or (λ r. r.groups) (find at routes) []

    -- one pair more in front
    front : (k : ℕ × ℕ) (l : List ℕ) (rest : List Route) → (((k.0 ≡ x) × (k.1 ≡ c) × (l ≢ []) × (looked (route_if k l ++ rest) ≡ l)) ⊎ (((k.0 ≡ x) → (k.1 ≡ c) → l ≡ []) × (looked (route_if k l ++ rest) ≡ looked rest)))
    front k [] rest = inr (λ _ _. refl, refl)
    front k (g ∷ gs) rest =
        elim ((k.0 == x) && (k.1 == c)) as (λ b. ((k.0 == x) && (k.1 == c)) ≡ b → (((k.0 ≡ x) × (k.1 ≡ c) × (g ∷ gs ≢ []) × (option_map_or (λ (r : Route). r.groups) (cond b (Some (record { exchange = k.0; code = k.1; groups = g ∷ gs })) (find at rest)) [] ≡ g ∷ gs)) ⊎ (((k.0 ≡ x) → (k.1 ≡ c) → g ∷ gs ≡ []) × (option_map_or (λ (r : Route). r.groups) (cond b (Some (record { exchange = k.0; code = k.1; groups = g ∷ gs })) (find at rest)) [] ≡ looked rest)))) [
          | true ↦ λ e. let t = and_parts (k.0 == x) (k.1 == c) e in inl (eqb-true k.0 x t.0, eqb-true k.1 c t.1, λ q. let bad : ⊥ = cc in bad, refl)
          | false ↦ λ e. inr (λ a b. let t = and_from (k.0 == x) (k.1 == c) (eq-eqb k.0 x a) (eq-eqb k.1 c b) in absurd (let bad : ⊥ = cc in bad), refl)
        ] refl

    listed_empty : (ks : List (ℕ × ℕ)) → lists c x ≡ [] → looked (flat_map routed ks) ≡ []
    listed_empty [] e = refl
    listed_empty (k ∷ ks) e =
        elim (front k (lists k.1 k.0) (flat_map routed ks)) [
          | inl h ↦ absurd (h.2 ((λ i. lists (h.1 i) (h.0 i)) ∙ e))
          | inr h ↦ h.1 ∙ listed_empty ks e
        ]

    pub listed : (ks : List (ℕ × ℕ)) (k : ℕ × ℕ) → k.0 ≡ x → k.1 ≡ c → Among k ks → looked (flat_map routed ks) ≡ lists c x
    listed [] k a b m = absurd m
    listed (j ∷ ks) k a b (inl e) =
        elim (front j (lists j.1 j.0) (flat_map routed ks)) [
          | inl h ↦ h.3 ∙ (λ i. lists (h.1 i) (h.0 i))
          | inr h ↦
              let j0 : j.0 ≡ x = ap (λ (q : ℕ × ℕ). q.0) e ∙ a in
              let j1 : j.1 ≡ c = ap (λ (q : ℕ × ℕ). q.1) e ∙ b in
              let same : lists c x ≡ lists j.1 j.0 = λ i. lists (sym j1 i) (sym j0 i) in
              let none : lists c x ≡ [] = same ∙ h.0 j0 j1 in
              h.1 ∙ listed_empty ks none ∙ sym none
        ]
    listed (j ∷ ks) k a b (inr m) =
        elim (front j (lists j.1 j.0) (flat_map routed ks)) [
          | inl h ↦ h.3 ∙ (λ i. lists (h.1 i) (h.0 i))
          | inr h ↦ h.1 ∙ listed ks k a b m
        ]

  -- THE RULES

  -- a route is that of a pair, and has its list
  pub record IsRouteOf (ks : List (ℕ × ℕ)) (r : Route) : Type 0 where
    pub pair : ℕ × ℕ
    pub among : Among pair ks
    pub exchange : r.exchange ≡ pair.0
    pub code : r.code ≡ pair.1
    pub groups : r.groups ≡ lists pair.1 pair.0
    pub some : 1 ≤ length r.groups

  route_in : (k : ℕ × ℕ) (l : List ℕ) (r : Route) → Among r (route_if k l) → (r.exchange ≡ k.0) × (r.code ≡ k.1) × (r.groups ≡ l) × (1 ≤ length r.groups)
  route_in k [] r m = absurd m
  route_in k (g ∷ gs) r (inl e) = (ap (λ (r : Route). r.exchange) (sym e), ap (λ (r : Route). r.code) (sym e), ap (λ (r : Route). r.groups) (sym e), subst (λ (r : Route). 1 ≤ length r.groups) e (omega arith))
  route_in k (g ∷ gs) r (inr m) = absurd m

  pub route_of : (ks : List (ℕ × ℕ)) (r : Route) → Among r (flat_map routed ks) → IsRouteOf ks r
  route_of ks r m =
      let f = flat_among routed r ks m in
      let i = route_in f.0 (lists f.0.1 f.0.0) r f.2 in
      record { pair = f.0; among = f.1; exchange = i.0; code = i.1; groups = i.2; some = i.3 }

  pub routes_apart : (ks : List (ℕ × ℕ)) → EachPair Apart ks → EachPair (λ (r q : Route). r.exchange ≡ q.exchange → r.code ≢ q.code) (flat_map routed ks)
  routes_apart [] d = tt
  routes_apart (k ∷ ks) d =
      pairs_append (λ (r q : Route). r.exchange ≡ q.exchange → r.code ≢ q.code) (routed k) (flat_map routed ks) (single k (lists k.1 k.0)) (routes_apart ks d.1)
      (λ r q m n.
      let i = route_in k (lists k.1 k.0) r m in
      let j = route_of ks q n in
      let apart = all_among (Apart k) ks j.pair d.0 j.among in
      λ a b. apart (sym i.0 ∙ a ∙ j.exchange) (sym i.1 ∙ b ∙ j.code))
    where
      single : (k : ℕ × ℕ) (l : List ℕ) → EachPair (λ (r q : Route). r.exchange ≡ q.exchange → r.code ≢ q.code) (route_if k l)
      single k [] = tt
      single k (g ∷ gs) = (tt, tt)

-- ALL PAIRS

abbrev row : ℕ → ℕ → List (ℕ × ℕ)
row n c = map (λ x. (x, c)) (indexes n)

row_apart : (c : ℕ) (xs : List ℕ) → AllDiffer xs → EachPair Apart (map (λ x. (x, c)) xs)
row_apart c [] d = tt
row_apart c (x ∷ xs) d = (each xs d.0, row_apart c xs d.1)
  where
    each : (ys : List ℕ) → AllByRecursion (λ y. x ≢ y) ys → AllByRecursion (Apart (x, c)) (map (λ x. (x, c)) ys)
    each [] h = tt
    each (y ∷ ys) h = (λ e _. h.0 e, each ys h.1)

rows_apart : (n : ℕ) (cs : List ℕ) → AllDiffer cs → EachPair Apart (flat_map (row n) cs)
rows_apart n [] d = tt
rows_apart n (c ∷ cs) d =
    pairs_append Apart (row n c) (flat_map (row n) cs) (row_apart c (indexes n) (range_differs 0 n)) (rows_apart n cs d.1)
    (λ a b m k.
    let i = map_among (λ (x : ℕ). (x, c)) a (indexes n) m in
    let f = flat_among (row n) b cs k in
    let j = map_among (λ (x : ℕ). (x, f.0)) b (indexes n) f.2 in
    let here : c ≡ a.1 = ap (λ (q : ℕ × ℕ). q.1) i.2 in
    let there : f.0 ≡ b.1 = ap (λ (q : ℕ × ℕ). q.1) j.2 in
    λ _ e. all_among (λ y. c ≢ y) cs f.0 d.0 f.1 (here ∙ e ∙ sym there))

pub has_any : (x c : ℕ) (rs : List Route) (r : Route) → Among r rs → r.exchange ≡ x → r.code ≡ c → list_any (λ r. (r.exchange == x) && (r.code == c)) rs ≡ true
has_any x c [] r m a b = absurd m
has_any x c (q ∷ rs) r (inl e) a b = or_left ((q.exchange == x) && (q.code == c)) (list_any (λ r. (r.exchange == x) && (r.code == c)) rs) (and_from (q.exchange == x) (q.code == c) (eq-eqb q.exchange x (ap (λ (r : Route). r.exchange) e ∙ a)) (eq-eqb q.code c (ap (λ (r : Route). r.code) e ∙ b)))
has_any x c (q ∷ rs) r (inr m) a b = or_right ((q.exchange == x) && (q.code == c)) (list_any (λ r. (r.exchange == x) && (r.code == c)) rs) (has_any x c rs r m a b)

pub any_has : (x c : ℕ) (rs : List Route) → list_any (λ r. (r.exchange == x) && (r.code == c)) rs ≡ true → (r : Route) × Among r rs × (r.exchange ≡ x) × (r.code ≡ c)
any_has x c [] h = absurd (false≢true h)
any_has x c (q ∷ rs) h = elim (or_cases ((q.exchange == x) && (q.code == c)) (list_any (λ r. (r.exchange == x) && (r.code == c)) rs) h) [
  | inl a ↦ (let t = and_parts (q.exchange == x) (q.code == c) a in (q, inl refl, eqb-true q.exchange x t.0, eqb-true q.code c t.1))
  | inr b ↦ (let i = any_has x c rs b in (i.0, inr i.1, i.2, i.3))
]

module _ (p : Plan) where
  abbrev with_route : List (ℕ × ℕ)
  with_route = map (λ (r : Route). (r.exchange, r.code)) p.routes

  abbrev without : List (ℕ × ℕ)
  without = filter (λ (k : ℕ × ℕ). not (has_route p k.0 k.1)) (all_pairs p)

  all_has : (x c : ℕ) → x < length p.exchanges → c < length p.codes → Among (x, c) (all_pairs p)
  all_has x c h k = among_flat (row (length p.exchanges)) c (x, c) (indexes (length p.codes)) (among_range 0 (length p.codes) c (omega arith) (omega arith)) (among_map (λ (x : ℕ). (x, c)) x (indexes (length p.exchanges)) (among_range 0 (length p.exchanges) x (omega arith) (omega arith)))

  -- each pair stands there
  pub pairs_have : (x c : ℕ) → x < length p.exchanges → c < length p.codes → (k : ℕ × ℕ) × Among k (pairs_of p) × (k.0 ≡ x) × (k.1 ≡ c)
  pairs_have x c h l = elim (has_route p x c) as (λ b. has_route p x c ≡ b → (k : ℕ × ℕ) × Among k (pairs_of p) × (k.0 ≡ x) × (k.1 ≡ c)) [
    | true ↦ λ e. let r = any_has x c p.routes e in ((r.0.exchange, r.0.code), among_left (r.0.exchange, r.0.code) with_route without (among_map (λ (r : Route). (r.exchange, r.code)) r.0 p.routes r.1), r.2, r.3)
    | false ↦ λ e. ((x, c), among_right (x, c) with_route without (among_filter (λ (k : ℕ × ℕ). not (has_route p k.0 k.1)) (x, c) (all_pairs p) (all_has x c h l) (ap not e)), refl, refl)
  ] refl

  module _ (ok : IsPlan p) where
    -- and within the plan
    pub pair_within : (k : ℕ × ℕ) → Among k (pairs_of p) → (k.0 < length p.exchanges) × (k.1 < length p.codes)
    pair_within k m = elim (among_cases k with_route without m) [
      | inl a ↦ (let i = map_among (λ (r : Route). (r.exchange, r.code)) k p.routes a in
          let r = all_among (IsRoute p) p.routes i.0 ok.routes i.1 in
          let x = r.exchange in
          let c = r.code in
          let e : i.0.exchange ≡ k.0 = ap (λ (q : ℕ × ℕ). q.0) i.2 in
          let f : i.0.code ≡ k.1 = ap (λ (q : ℕ × ℕ). q.1) i.2 in
          (omega arith, omega arith))
      | inr a ↦ (let f = flat_among (row (length p.exchanges)) k (indexes (length p.codes)) (filter_among (λ (k : ℕ × ℕ). not (has_route p k.0 k.1)) k (all_pairs p) a).0 in
          let i = map_among (λ (x : ℕ). (x, f.0)) k (indexes (length p.exchanges)) f.2 in
          let c = range_among 0 (length p.codes) f.0 f.1 in
          let x = range_among 0 (length p.exchanges) i.0 i.1 in
          let e : i.0 ≡ k.0 = ap (λ (q : ℕ × ℕ). q.0) i.2 in
          let g : f.0 ≡ k.1 = ap (λ (q : ℕ × ℕ). q.1) i.2 in
          let x1 = x.1 in
          let c1 = c.1 in
          (omega arith, omega arith))
    ]

    -- and each once
    pub pairs_apart : EachPair Apart (pairs_of p)
    pairs_apart =
        pairs_append Apart with_route without (mapped p.routes ok.routes_differ) (pairs_kept Apart (λ (k : ℕ × ℕ). not (has_route p k.0 k.1)) (all_pairs p) (rows_apart (length p.exchanges) (indexes (length p.codes)) (range_differs 0 (length p.codes))))
        (λ a b m n e f.
        let i = map_among (λ (r : Route). (r.exchange, r.code)) a p.routes m in
        let t = not-true (has_route p b.0 b.1) (filter_among (λ (k : ℕ × ℕ). not (has_route p k.0 k.1)) b (all_pairs p) n).1 in
        let h = has_any b.0 b.1 p.routes i.0 i.1 (ap (λ (q : ℕ × ℕ). q.0) i.2 ∙ e) (ap (λ (q : ℕ × ℕ). q.1) i.2 ∙ f) in
        let bad : ⊥ = cc in bad)
      where
        mapped : (rs : List Route) → EachPair (λ (r q : Route). r.exchange ≡ q.exchange → r.code ≢ q.code) rs → EachPair Apart (map (λ (r : Route). (r.exchange, r.code)) rs)
        mapped [] d = tt
        mapped (r ∷ rs) d = (each rs d.0, mapped rs d.1)
          where
            each : (qs : List Route) → AllByRecursion (λ (q : Route). r.exchange ≡ q.exchange → r.code ≢ q.code) qs → AllByRecursion (Apart (r.exchange, r.code)) (map (λ (r : Route). (r.exchange, r.code)) qs)
            each [] h = tt
            each (q ∷ qs) h = (h.0, each qs h.1)

  -- THE PLAN WITH THEM

  module _ (lists : ℕ → ℕ → List ℕ) where
    pub routed_list : (x c : ℕ) → x < length p.exchanges → c < length p.codes → route_list (rerouted p (routes_of p lists) p.bars) x c ≡ lists c x
    routed_list x c h l = let k = pairs_have x c h l in listed lists x c (pairs_of p) k.0 k.2 k.3 k.1

    module _ (ok : IsPlan p) (good : (x c : ℕ) → IsList p x c (lists c x)) where
      is_route : (r : Route) → Among r (routes_of p lists) → IsRoute p r
      is_route r m =
          let o = route_of lists (pairs_of p) r m in
          let w = pair_within ok o.pair o.among in
          let l = good o.pair.0 o.pair.1 in
          let x : r.exchange ≡ o.pair.0 = o.exchange in
          let c : r.code ≡ o.pair.1 = o.code in
          let w0 = w.0 in
          let w1 = w.1 in
          let some = o.some in
          record {
            exchange = omega arith;
            code = omega arith;
            away = λ e. l.away (λ empty. let z = ap length (o.groups ∙ empty) in absurd (omega arith)) (ap (home_of p) (sym c) ∙ e ∙ x);
            some = some;
            few = subst (λ (l : List ℕ). length l ≤ 16) (sym o.groups) l.few;
            outgoing = among_all (λ g. may_seize p g r.exchange ≡ true) r.groups (λ g n. ap (may_seize p g) x ∙ l.seizes g (subst (λ (l : List ℕ). Among g l) o.groups n));
            differ = subst AllDiffer (sym o.groups) l.differs;
          }

      pub routes_rules : AllByRecursion (IsRoute p) (routes_of p lists)
      routes_rules = among_all (IsRoute p) (routes_of p lists) is_route

      pub routes_differ : EachPair (λ (r q : Route). r.exchange ≡ q.exchange → r.code ≢ q.code) (routes_of p lists)
      routes_differ = routes_apart lists (pairs_of p) (pairs_apart ok)
