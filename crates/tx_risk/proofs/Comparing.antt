-- The order of cuts, and a search in them.
use Rattle.std.proofs.Common.{◌≡◌, ◌<◌, ◌≤◌, ◌⊎◌, if◌then◌else◌, ℕ, zero, suc, Bool, true, false, List, [], ◌∷◌, map, length, get_or, Option, Some, None, option_map, inl, inr, refl, sym, ap, subst, arith, tests}
use Rattle.std.specs.List.{AllByRecursion, find, slice_get}
use Rattle.tx_risk.proofs.Common.{Plan, EachPair, among_all, slice_get-get_or, all_at, all_map, Cut, Leg, Outcome, Outage, Risk, NamedRisk}
use Rattle.tx_plan.proofs.Filtered.{all_joined, pairs_joined}
use Rattle.tx_risk.specs.Outages.{start_at, AreCutsBelow, IsOutcome, AreOutcomes}
use Rattle.tx_risk.specs.Compared.{AreInOrder, stray_at}
use Rattle.tx_risk.specs.inner.InOrder.{comes_before, is_at, stray_of}

abbrev IsBefore : Cut → Cut → Type 0
IsBefore c d = (c.code < d.code) ⊎ ((c.code ≡ d.code) × (start_at c < start_at d))

-- OUTCOMES ARE IN ORDER
behind : (x : Cut) (ys : List Cut) → AllByRecursion (λ y. y.code ≡ x.code) ys
    → AllByRecursion (λ y. start_at x < y) (map start_at ys) → AllByRecursion (IsBefore x) ys
behind x [] e h = tt
behind x (y ∷ ys) e h = (inr (sym e.0, h.0), behind x ys e.1 h.1)

of_one_code : (code : ℕ) (xs : List Cut) → AllByRecursion (λ x. x.code ≡ code) xs
    → EachPair (λ x y. x < y) (map start_at xs) → AreInOrder xs
of_one_code code [] e h = tt
of_one_code code (x ∷ xs) e h = (
  behind x xs (subst (λ c. AllByRecursion (λ (y : Cut). y.code ≡ c) xs) (sym e.0) e.1) h.0,
  of_one_code code xs e.1 h.1,
)

sooner : (c : ℕ) (xs : List Cut) → AllByRecursion (λ d. d.code < c) xs
    → AllByRecursion (λ d. d.code < suc c) xs
sooner c [] h = tt
sooner c (x ∷ xs) h = (let l = h.0 in omega arith, sooner c xs h.1)

just : (c : ℕ) (xs : List Cut) → AllByRecursion (λ d. d.code ≡ c) xs
    → AllByRecursion (λ d. d.code < suc c) xs
just c [] h = tt
just c (x ∷ xs) h = (let l = h.0 in omega arith, just c xs h.1)

apart : (c : ℕ) (x y : Cut) → x.code < c → y.code ≡ c → IsBefore x y
apart c x y k l = inl (omega arith)

module _ (p : Plan) (risk : Risk) (o : Outage) (legs : List Leg) where
  below : (c : ℕ) (cuts : List Cut) → AreCutsBelow p risk o legs c cuts
      → AllByRecursion (λ d. d.code < c) cuts × AreInOrder cuts
  below zero cuts e = rw e (tt, tt)
  below (suc c) cuts (front, last, e, a, b) =
      let before = below c front a in
      let own : AllByRecursion (λ (d : Cut). d.code ≡ c) last = among_all _ last (λ d m. (b.each d m).of_code) in
      rw e (
        all_joined (λ (d : Cut). d.code < suc c) front last (sooner c front before.0) (just c last own),
        pairs_joined (λ (d : Cut). d.code < c) (λ (d : Cut). d.code ≡ c) IsBefore front last before.1
            (of_one_code c last own b.order) before.0 own (apart c),
      )

module _ {A : Type 0} where
  each_in_order : (p : Plan) (risks : List NamedRisk) (os : List (Outcome A)) → AllByRecursion (IsOutcome p risks) os
      → AllByRecursion (λ t. AreInOrder t.cuts.items) os
  each_in_order p risks [] h = tt
  each_in_order p risks (t ∷ os) h = ((below p _ _ _ (length p.codes) t.cuts.items h.0).1, each_in_order p risks os h.1)

  pub outcomes_in_order : (p : Plan) (risks : List NamedRisk) (only : Bool) (os : List (Outcome A)) → AreOutcomes p risks only os
      → AllByRecursion (λ t. AreInOrder t.cuts.items) os
  outcomes_in_order p risks only os h = each_in_order p risks os h.each

-- A SEARCH
module _ (code x : ℕ) where
  earlier : (c d : Cut) → IsBefore c d → comes_before code x d ≡ true → comes_before code x c ≡ true
  earlier c d (inl l) h = grind (arith, tests)
  earlier c d (inr (e, l)) h = grind (arith, tests)

  not_at : (d : Cut) → comes_before code x d ≡ true → is_at code x d ≡ false
  not_at d h = grind (arith, tests)

  past : (c d : Cut) → IsBefore c d → comes_before code x c ≡ false → is_at code x d ≡ false
  past c d (inl l) h = grind (arith, tests)
  past c d (inr (e, l)) h = grind (arith, tests)

  pub parted : (cuts : List Cut) → AreInOrder cuts → (i j : ℕ) (d : Cut) → i ≤ j → j < length cuts
      → comes_before code x (get_or cuts j d) ≡ true → comes_before code x (get_or cuts i d) ≡ true
  parted [] order i j d le low h = absurd (omega (arith, low))
  parted (c ∷ cuts) order zero zero d le low h = h
  parted (c ∷ cuts) order zero (suc j) d le low h =
      earlier c (get_or cuts j d) (all_at (IsBefore c) cuts j (get_or cuts j d) order.0 (slice_get-get_or cuts j d (omega (arith, low)))) h
  parted (c ∷ cuts) order (suc i) zero d le low h = absurd (omega (arith, le))
  parted (c ∷ cuts) order (suc i) (suc j) d le low h =
      parted cuts order.1 i j d (omega (arith, le)) (omega (arith, low)) h

  none_at : (cuts : List Cut) → AllByRecursion (λ d. is_at code x d ≡ false) cuts → find (is_at code x) cuts ≡ None
  none_at [] h = refl
  none_at (c ∷ cuts) h = rw h.0 (none_at cuts h.1)

  -- what is told of the cut at the place of a search
  abbrev pub told_at : Option (Cut) → Option Bool
  told_at None = None
  told_at (Some d) = stray_of code x d

  pub stray_at_point : (cuts : List Cut) (i : ℕ) → AreInOrder cuts
      → ((k : ℕ) (d : Cut) → k < i → k < length cuts → comes_before code x (get_or cuts k d) ≡ true)
      → ((d : Cut) → i < length cuts → comes_before code x (get_or cuts i d) ≡ false)
      → told_at (slice_get cuts i) ≡ stray_at cuts code x
  stray_at_point [] i order low high = refl
  stray_at_point (c ∷ cuts) zero order low high =
      let none = none_at cuts (all_map cuts (λ d b. past c d b (high c (omega arith))) order.0) in
      elim (is_at code x c) as (λ b. (if b then Some c.stray else None)
      ≡ option_map (λ (d : Cut). d.stray) (if b then Some c else find (is_at code x) cuts)) [
        | true ↦ refl
        | false ↦ sym (ap (option_map (λ (d : Cut). d.stray)) none)
      ]
  stray_at_point (c ∷ cuts) (suc i) order low high =
      let no = not_at c (low 0 c (omega arith) (omega arith)) in
      rw no (stray_at_point cuts i order.1
      (λ k d a b. low (suc k) d (omega (arith, a)) (omega (arith, b))) (λ d a. high d (omega (arith, a))))
