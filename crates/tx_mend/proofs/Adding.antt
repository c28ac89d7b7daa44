-- The mended routes as they are added, pair by pair.
use Rattle.tx_mend.proofs.Common.{◌≡◌, ◌≢◌, ℕ, zero, suc, ◌+◌, ◌<◌, Bool, true, false, not, cond, ◌==◌, ◌&&◌, ◌||◌, List, [], ◌∷◌, ◌++◌, length, map, take, Option, Some, inl, inr, refl, sym, ap, subst, ◌∙◌, arith, append_assoc, append-nil, filter, find, slice_get, flat_map, list_any, AllByRecursion, false≢true, not-true, filter-append, flat_map-append, map-append, Plan, Route, IsPlan, IsRoute, EachPair, route_list, has_route, Among, among_left, among_cases, map_among, filter_among, flat_among, all_among, indexes, present_pairs, pairs_for, is_absent, absent_below, pair_of}
use Rattle.std.specs.Option.{option_map, option_map_or}
use Rattle.tx_mend.proofs.Distinct.{range_among}
use Rattle.tx_plan.proofs.ListFound.{list_cases, found_among}
use Rattle.tx_mend.proofs.Placed.{indexes_more, flat_more}
use Rattle.tx_mend.proofs.Routed.{Apart, routed, route_of, has_any, any_has, pair_within, pairs_apart}

abbrev at : ℕ → ℕ → Route → Bool
at x c r = (r.exchange == x) && (r.code == c)

-- no route of these pairs is for another pair
pub fresh : (lists : ℕ → ℕ → List ℕ) (ks : List (ℕ × ℕ)) (x c : ℕ) → ((k : ℕ × ℕ) → Among k ks → k.0 ≡ x → k.1 ≡ c → ⊥) → list_any (at x c) (flat_map (routed lists) ks) ≡ false
fresh lists ks x c h = elim (list_any (at x c) (flat_map (routed lists) ks)) as (λ b. list_any (at x c) (flat_map (routed lists) ks) ≡ b → b ≡ false) [
  | true ↦ λ e. let a = any_has x c (flat_map (routed lists) ks) e in let o = route_of lists ks a.0 a.1 in absurd (h o.pair o.among (sym o.exchange ∙ a.2) (sym o.code ∙ a.3))
  | false ↦ λ e. refl
] refl

-- THE PAIRS THAT HAVE A ROUTE

pub pair_got : (rs : List Route) (i : ℕ) → slice_get (map pair_of rs) i ≡ option_map pair_of (slice_get rs i)
pair_got [] i = refl
pair_got (r ∷ rs) zero = refl
pair_got (r ∷ rs) (suc i) = pair_got rs i

module _ (A : Type 0) where
  among_got : (ks : List A) (i : ℕ) (k : A) → slice_get ks i ≡ Some k → Among k ks
  among_got [] i k h = absurd (let bad : ⊥ = cc in bad)
  among_got (j ∷ ks) zero k h = inl (let e : j ≡ k = cc in e)
  among_got (j ∷ ks) (suc i) k h = inr (among_got ks i k h)

  take_got : (ks : List A) (i : ℕ) (k : A) → slice_get ks i ≡ Some k → take (suc i) ks ≡ take i ks ++ k ∷ []
  take_got [] i k h = absurd (let bad : ⊥ = cc in bad)
  take_got (j ∷ ks) zero k h = let e : j ≡ k = cc in ap (λ y. y ∷ []) e
  take_got (j ∷ ks) (suc i) k h = ap (λ l. j ∷ l) (take_got ks i k h)

before_apart : (ks : List (ℕ × ℕ)) (i : ℕ) (k j : ℕ × ℕ) → EachPair Apart ks → slice_get ks i ≡ Some k → Among j (take i ks) → Apart j k
before_apart [] i k j d h m = absurd (let bad : ⊥ = cc in bad)
before_apart (y ∷ ks) zero k j d h m = absurd m
before_apart (y ∷ ks) (suc i) k j d h (inl e) = subst (λ (z : ℕ × ℕ). Apart z k) e (all_among (Apart y) ks k d.0 (among_got (ℕ × ℕ) ks i k h))
before_apart (y ∷ ks) (suc i) k j d h (inr m) = before_apart ks i k j d.1 h m

module _ (p : Plan) (ok : IsPlan p) where
  fronts_apart : EachPair Apart (present_pairs p)
  fronts_apart = front (present_pairs p) (filter (is_absent p) (all_of p)) (pairs_apart p ok)
    where
      all_of : Plan → List (ℕ × ℕ)
      all_of q = flat_map (pairs_for (length q.exchanges)) (indexes (length q.codes))

      front : (xs ys : List (ℕ × ℕ)) → EachPair Apart (xs ++ ys) → EachPair Apart xs
      front [] ys d = tt
      front (x ∷ xs) ys d = (all_front xs ys d.0, front xs ys d.1)
        where
          all_front : (xs ys : List (ℕ × ℕ)) → AllByRecursion (Apart x) (xs ++ ys) → AllByRecursion (Apart x) xs
          all_front [] ys a = tt
          all_front (z ∷ xs) ys a = (a.0, all_front xs ys a.1)

  module _ (i : ℕ) (k : ℕ × ℕ) (got : Some k ≡ option_map pair_of (slice_get p.routes i)) where
    at_present : slice_get (present_pairs p) i ≡ Some k
    at_present = pair_got p.routes i ∙ sym got

    pub present_within : (k.0 < length p.exchanges) × (k.1 < length p.codes)
    present_within = pair_within p ok k (among_left k (present_pairs p) _ (among_got (ℕ × ℕ) (present_pairs p) i k at_present))

    pub present_fresh : (lists : ℕ → ℕ → List ℕ) → list_any (at k.0 k.1) (flat_map (routed lists) (take i (present_pairs p))) ≡ false
    present_fresh lists = fresh lists (take i (present_pairs p)) k.0 k.1 (λ j m a b. before_apart (present_pairs p) i k j fronts_apart at_present m a b)

    pub present_more : (lists : ℕ → ℕ → List ℕ) → flat_map (routed lists) (take (i + 1) (present_pairs p)) ≡ flat_map (routed lists) (take i (present_pairs p)) ++ routed lists k
    present_more lists =
        let n : i + 1 ≡ suc i = omega arith in
        ap (λ m. flat_map (routed lists) (take m (present_pairs p))) n ∙ ap (flat_map (routed lists)) (take_got (ℕ × ℕ) (present_pairs p) i k at_present)
        ∙ flat_map-append (routed lists) (take i (present_pairs p)) (k ∷ []) ∙ ap (λ l. flat_map (routed lists) (take i (present_pairs p)) ++ l) (append-nil (routed lists k))

  -- THE OTHERS

  find_some : (t : Route → Bool) (rs : List Route) → list_any t rs ≡ true → (r : Route) × (find t rs ≡ Some r)
  find_some t [] h = absurd (false≢true h)
  find_some t (r ∷ rs) h = elim (t r) as (λ b. t r ≡ b → (z : Route) × (cond b (Some r) (find t rs) ≡ Some z)) [
    | true ↦ λ e. (r, refl)
    | false ↦ λ e. find_some t rs (sym (ap (λ b. b || list_any t rs) e) ∙ h)
  ] refl

  pub is_absent_if : (x c : ℕ) → route_list p x c ≡ [] → is_absent p (x, c) ≡ true
  is_absent_if x c e = elim (has_route p x c) as (λ b. has_route p x c ≡ b → not b ≡ true) [
    | true ↦ λ h.
        let f = find_some (at x c) p.routes h in
        let m = found_among (at x c) p.routes f.0 f.1 in
        let some = (all_among (IsRoute p) p.routes f.0 ok.routes m.0).some in
        let same : route_list p x c ≡ f.0.groups = ap (λ (o : Option Route). option_map_or (λ (r : Route). r.groups) o []) f.1 in
        let none = ap length (sym same ∙ e) in
        absurd (omega arith)
    | false ↦ λ h. refl
  ] refl

  pub is_present_if : (x c : ℕ) → route_list p x c ≢ [] → is_absent p (x, c) ≡ false
  is_present_if x c some = elim (list_cases p x c) [
    | inl e ↦ absurd (some e)
    | inr f ↦ ap not (has_any x c p.routes f.route f.among f.exchange f.code)
  ]

  module _ (lists : ℕ → ℕ → List ℕ) (c i : ℕ) where
    abbrev so_far : List (ℕ × ℕ)
    so_far = present_pairs p ++ (absent_below p c ++ filter (is_absent p) (pairs_for i c))

    row_more : pairs_for (i + 1) c ≡ pairs_for i c ++ (i, c) ∷ []
    row_more = ap (map (λ (x : ℕ). (x, c))) (indexes_more i) ∙ map-append (λ (x : ℕ). (x, c)) (indexes i) (i ∷ [])

    pub absent_fresh : is_absent p (i, c) ≡ true → list_any (at i c) (flat_map (routed lists) so_far) ≡ false
    absent_fresh h = fresh lists so_far i c (λ k m a b. elim (among_cases k (present_pairs p) (absent_below p c ++ filter (is_absent p) (pairs_for i c)) m) [
      | inl l ↦ (let r = map_among (λ (r : Route). (r.exchange, r.code)) k p.routes l in
          let has = has_any i c p.routes r.0 r.1 (ap (λ (q : ℕ × ℕ). q.0) r.2 ∙ a) (ap (λ (q : ℕ × ℕ). q.1) r.2 ∙ b) in
          let none = not-true (has_route p i c) h in
          let bad : ⊥ = cc in bad)
      | inr l ↦ elim (among_cases k (absent_below p c) (filter (is_absent p) (pairs_for i c)) l) [
        | inl n ↦ (let f = flat_among (pairs_for (length p.exchanges)) k (indexes c) (filter_among (is_absent p) k (flat_map (pairs_for (length p.exchanges)) (indexes c)) n).0 in
            let r = map_among (λ (x : ℕ). (x, f.0)) k (indexes (length p.exchanges)) f.2 in
            let w = (range_among 0 c f.0 f.1).1 in
            let e : f.0 ≡ k.1 = ap (λ (q : ℕ × ℕ). q.1) r.2 in
            absurd (omega arith))
        | inr n ↦ (let r = map_among (λ (x : ℕ). (x, c)) k (indexes i) (filter_among (is_absent p) k (pairs_for i c) n).0 in
            let w = (range_among 0 i r.0 r.1).1 in
            let e : r.0 ≡ k.0 = ap (λ (q : ℕ × ℕ). q.0) r.2 in
            absurd (omega arith))
      ]
    ])

    abbrev after : List (ℕ × ℕ)
    after = present_pairs p ++ (absent_below p c ++ filter (is_absent p) (pairs_for (i + 1) c))

    row_filtered : (b : Bool) → is_absent p (i, c) ≡ b → filter (is_absent p) (pairs_for (i + 1) c) ≡ filter (is_absent p) (pairs_for i c) ++ cond b ((i, c) ∷ []) []
    row_filtered b e = ap (filter (is_absent p)) row_more ∙ filter-append (is_absent p) (pairs_for i c) ((i, c) ∷ []) ∙ ap (λ b. filter (is_absent p) (pairs_for i c) ++ cond b ((i, c) ∷ []) []) e

    pub absent_more : is_absent p (i, c) ≡ true → flat_map (routed lists) after ≡ flat_map (routed lists) so_far ++ routed lists (i, c)
    absent_more h =
        let a = present_pairs p in
        let b = absent_below p c in
        let d = filter (is_absent p) (pairs_for i c) in
        let k : List (ℕ × ℕ) = (i, c) ∷ [] in
        let grown : after ≡ so_far ++ k = ap (λ l. a ++ (b ++ l)) (row_filtered true h) ∙ ap (λ l. a ++ l) (sym (append_assoc b d k)) ∙ sym (append_assoc a (b ++ d) k) in
        ap (flat_map (routed lists)) grown ∙ flat_map-append (routed lists) so_far k ∙ ap (λ l. flat_map (routed lists) so_far ++ l) (append-nil (routed lists (i, c)))

    pub absent_same : is_absent p (i, c) ≡ false → flat_map (routed lists) after ≡ flat_map (routed lists) so_far
    absent_same h = ap (λ l. flat_map (routed lists) (present_pairs p ++ (absent_below p c ++ l))) (row_filtered false h ∙ append-nil (filter (is_absent p) (pairs_for i c)))

  -- all exchanges of a code
  pub absent_all : (lists : ℕ → ℕ → List ℕ) (c : ℕ) → flat_map (routed lists) (present_pairs p ++ (absent_below p c ++ filter (is_absent p) (pairs_for (length p.exchanges) c))) ≡ flat_map (routed lists) (present_pairs p ++ absent_below p (c + 1))
  absent_all lists c =
      let n = length p.exchanges in
      ap (λ l. flat_map (routed lists) (present_pairs p ++ l)) (sym (ap (filter (is_absent p)) (flat_more (pairs_for n) c) ∙ filter-append (is_absent p) (flat_map (pairs_for n) (indexes c)) (pairs_for n c)))
