-- Routes that get other lists, one after another.
use Rattle.tx_mend.proofs.Common.{◌≡◌, ℕ, ◌+◌, ◌==◌, Bool, true, false, ◌&&◌, ◌||◌, List, [], ◌∷◌, ◌++◌, take, Some, refl, sym, ap, ◌∙◌, append-nil, slice_get, list_any, flat_map, flat_map-append, Route, route_if}
use Rattle.tx_plan.proofs.ByIndex.{take_next}

-- what routes become has no route of a pair that none of them is of
module _ (exchange code : ℕ) (list : Route → List ℕ) where
  abbrev for : Route → Bool
  for r = (r.exchange == exchange) && (r.code == code)

  none_more : (r : Route) (l : List ℕ) (more : List Route) → for r ≡ false → list_any for more ≡ false → list_any for (route_if (r.exchange, r.code) l ++ more) ≡ false
  none_more r [] more k m = m
  none_more r (g ∷ gs) more k m = ap (λ b. b || list_any for more) k ∙ m

  pub none_settled : (rs : List Route) → list_any for rs ≡ false → list_any for (flat_map (λ r. route_if (r.exchange, r.code) (list r)) rs) ≡ false
  none_settled [] h = refl
  none_settled (r ∷ rs) h =
      let own : for r ≡ false = elim (for r) as (λ b. (b || list_any for rs) ≡ false → b ≡ false) [ true ↦ λ k. let bad : ⊥ = cc in absurd bad | false ↦ λ k. refl ] h in
      let rest : list_any for rs ≡ false = sym (ap (λ b. b || list_any for rs) own) ∙ h in
      none_more r (list r) (flat_map (λ r. route_if (r.exchange, r.code) (list r)) rs) own (none_settled rs rest)

-- ONE MORE

mapped_next : {A B : Type 0} (xs : List A) (i : ℕ) (x : A) → slice_get xs i ≡ Some x → (f : A → List B) (old new : List B) → old ≡ flat_map f (take i xs) → new ≡ old ++ f x → new ≡ flat_map f (take (i + 1) xs)
mapped_next xs i x at f old new a b = b ∙ ap (λ l. l ++ f x) a ∙ sym (ap (flat_map f) (take_next xs i x at) ∙ flat_map-append f (take i xs) (x ∷ []) ∙ ap (λ l. flat_map f (take i xs) ++ l) (append-nil (f x)))

-- of routes that get other lists
pub settled_next : (list : Route → List ℕ) (rs : List Route) (i : ℕ) (r : Route) → slice_get rs i ≡ Some r → (old new : List Route) (l : List ℕ) → old ≡ flat_map (λ r. route_if (r.exchange, r.code) (list r)) (take i rs)
    → new ≡ old ++ route_if (r.exchange, r.code) l → l ≡ list r → new ≡ flat_map (λ r. route_if (r.exchange, r.code) (list r)) (take (i + 1) rs)
settled_next list rs i r at old new l a b e = mapped_next rs i r at (λ r. route_if (r.exchange, r.code) (list r)) old new a (b ∙ ap (λ (k : List ℕ). old ++ route_if (r.exchange, r.code) k) e)
