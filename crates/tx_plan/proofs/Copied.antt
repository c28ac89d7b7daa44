-- Entries of a plan that are copied one after another.
use Rattle.tx_plan.proofs.Common.{◌≡◌, ◌≢◌, ℕ, zero, suc, ◌+◌, ◌==◌, Bool, true, false, cond, ◌&&◌, ◌||◌, List, [], ◌∷◌, ◌++◌, take, Option, Some, None, inl, inr, refl, sym, ap, ◌∙◌, filter, slice_get, list_any, option_map, ne_eqb, cases_eq, and_left, and_right, Pair, Plan, Route, EachPair, IsPlan, route_list}
use Rattle.tx_plan.proofs.ByIndex.{all_at, take_next}
use Rattle.tx_plan.proofs.ListFound.{list_found}

-- NONE BEFORE IS OF THE SAME EXCHANGE AND CODE

module _ {A : Type 0} (exchange code : A → ℕ) where
  abbrev alike : A → A → Bool
  alike r q = (exchange q == exchange r) && (code q == code r)

  pub none_before : (rs : List A) (i : ℕ) (r : A) → EachPair (λ q r. exchange q ≡ exchange r → code q ≢ code r) rs → slice_get rs i ≡ Some r → list_any (alike r) (take i rs) ≡ false
  none_before [] zero r d at = refl
  none_before [] (suc i) r d at = refl
  none_before (q ∷ rs) zero r d at = refl
  none_before (q ∷ rs) (suc i) r d at =
      let apart = all_at (λ (z : A). exchange q ≡ exchange z → code q ≢ code z) rs i r d.0 at in
      let t : alike r q ≡ false = elim (cases_eq (exchange q) (exchange r)) [
        | inr n ↦ and_left (exchange q == exchange r) (code q == code r) (ne_eqb (exchange q) (exchange r) n)
        | inl m ↦ and_right (exchange q == exchange r) (code q == code r) (ne_eqb (code q) (code r) (apart m))
      ] in
      ap (λ b. b || list_any (alike r) (take i rs)) t ∙ none_before rs i r d.1 at

pub none_filtered : {A : Type 0} (t s : A → Bool) (xs : List A) → list_any t xs ≡ false → list_any t (filter s xs) ≡ false
none_filtered t s [] h = refl
none_filtered t s (x ∷ xs) h = elim (t x) as (λ b. t x ≡ b → (b || list_any t xs) ≡ false → list_any t (cond (s x) (x ∷ filter s xs) (filter s xs)) ≡ false) [
  | true ↦ λ e k. let bad : ⊥ = cc in absurd bad
  | false ↦ λ e k. elim (s x) as (λ c. list_any t (cond c (x ∷ filter s xs) (filter s xs)) ≡ false) [
    | true ↦ ap (λ b. b || list_any t (filter s xs)) e ∙ none_filtered t s xs k
    | false ↦ none_filtered t s xs k
  ]
] refl h

-- ONE MORE

pub copied_next : {A : Type 0} (xs : List A) (i : ℕ) (x : A) → slice_get xs i ≡ Some x → (old new : List A) → old ≡ take i xs → new ≡ old ++ x ∷ [] → new ≡ take (i + 1) xs
copied_next xs i x at old new a b = b ∙ ap (λ l. l ++ x ∷ []) a ∙ sym (take_next xs i x at)

-- THE ENTRY AT AN INDEX

abbrev pub pair_of : Route → ℕ × ℕ
pair_of r = (r.exchange, r.code)

pub no_none : {A B : Type 0} (f : A → B) (o : Option A) (r : A) → o ≡ Some r → None ≡ option_map f o → ⊥
no_none f None r e h = let bad : ⊥ = cc in bad
no_none f (Some q) r e h = let bad : ⊥ = cc in bad

pub route_got : (p : Plan) → IsPlan p → (i : ℕ) (k : ℕ × ℕ) → Some k ≡ option_map (λ (r : Route). (r.exchange, r.code)) (slice_get p.routes i) → (list : List ℕ) → list ≡ route_list p k.0 k.1 → slice_get p.routes i ≡ Some (record { exchange = k.0; code = k.1; groups = list })
route_got p ok i k got list is = by (slice_get p.routes i) refl got
  where
    by : (o : Option Route) → slice_get p.routes i ≡ o → Some k ≡ option_map (λ (r : Route). (r.exchange, r.code)) o → slice_get p.routes i ≡ Some (record { exchange = k.0; code = k.1; groups = list })
    by None e h = absurd (let bad : ⊥ = cc in bad)
    by (Some r) e h =
        let same : k ≡ (r.exchange, r.code) = cc in
        let x : k.0 ≡ r.exchange = ap (λ (q : ℕ × ℕ). q.0) same in
        let c : k.1 ≡ r.code = ap (λ (q : ℕ × ℕ). q.1) same in
        let groups : list ≡ r.groups = is ∙ (λ j. route_list p (x j) (c j)) ∙ list_found p i r ok e in
        e ∙ sym (λ j. Some (record { exchange = x j; code = c j; groups = groups j }))

pub bar_got : (bars : List Pair) (i : ℕ) (k : ℕ × ℕ) → Some k ≡ option_map (λ (b : Pair). (b.exchange, b.code)) (slice_get bars i) → slice_get bars i ≡ Some (record { exchange = k.0; code = k.1 })
bar_got bars i k got = by (slice_get bars i) refl got
  where
    by : (o : Option Pair) → slice_get bars i ≡ o → Some k ≡ option_map (λ (b : Pair). (b.exchange, b.code)) o → slice_get bars i ≡ Some (record { exchange = k.0; code = k.1 })
    by None e h = absurd (let bad : ⊥ = cc in bad)
    by (Some b) e h =
        let same : k ≡ (b.exchange, b.code) = cc in
        e ∙ sym (λ j. Some (record { exchange = (same j).0; code = (same j).1 }))
