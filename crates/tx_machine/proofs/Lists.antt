-- Members of lists, and lists in which nothing stands twice.
use Rattle.tx_machine.proofs.Common.{◌≡◌, Bool, true, false, cond, ◌||◌, List, [], ◌∷◌, inl, inr, drop, Some, None, refl, sym, ap, ◌∙◌, subst, ℕ, zero, suc, find, slice_get, list_any, AllByRecursion, EachPair, Among}
use Rattle.std.proofs.lemmas.Bool.{false≢true, or_parts, or_cases}

pub first_of : {A : Type 0} (xs : List A) (x : A) → slice_get xs 0 ≡ Some x → xs ≡ x ∷ drop 1 xs
first_of [] x h = cc
first_of (y ∷ ys) x h = cc

pub none_in : {A : Type 0} (xs : List A) → slice_get xs 0 ≡ None → xs ≡ []
none_in [] h = refl
none_in (x ∷ xs) h = cc

module _ {A : Type 0} where
  module _ (t : A → Bool) where
    pub none_any : (xs : List A) (z : A) → list_any t xs ≡ false → Among z xs → t z ≡ false
    none_any [] z n m = elim m [ ]
    none_any (x ∷ xs) z n (inl e) = ap t (sym e) ∙ (or_parts (t x) (list_any t xs) n).0
    none_any (x ∷ xs) z n (inr h) = none_any xs z (or_parts (t x) (list_any t xs) n).1 h

    pub any_none : (xs : List A) → ((z : A) → Among z xs → t z ≡ false) → list_any t xs ≡ false
    any_none [] h = refl
    any_none (x ∷ xs) h = ap (λ b. b || list_any t xs) (h x (inl refl)) ∙ any_none xs (λ z m. h z (inr m))

    pub any_mem : (xs : List A) → list_any t xs ≡ true → (z : A) × Among z xs × (t z ≡ true)
    any_mem [] h = absurd (false≢true h)
    any_mem (x ∷ xs) h = elim (or_cases (t x) (list_any t xs) h) [ inl a ↦ (x, inl refl, a) | inr b ↦ let r = any_mem xs b in (r.0, inr r.1, r.2) ]

    pub mem_any : (xs : List A) (z : A) → Among z xs → t z ≡ true → list_any t xs ≡ true
    mem_any [] z m h = elim m [ ]
    mem_any (x ∷ xs) z (inl e) h = ap (λ b. b || list_any t xs) (ap t e ∙ h)
    mem_any (x ∷ xs) z (inr m) h = elim (t x) as (λ b. (b || list_any t xs) ≡ true) [ true ↦ refl | false ↦ mem_any xs z m h ]

    pub find_mem : (xs : List A) (z : A) → find t xs ≡ Some z → Among z xs × (t z ≡ true)
    find_mem [] z h = cc
    find_mem (x ∷ xs) z h =
        elim (t x) as (λ b. t x ≡ b → cond b (Some x) (find t xs) ≡ Some z → Among z (x ∷ xs) × (t z ≡ true)) [
          | true ↦ λ tx e. let same : x ≡ z = cc in (inl same, ap t (sym same) ∙ tx)
          | false ↦ λ tx e. let i = find_mem xs z e in (inr i.0, i.1)
        ] refl h

    pub find_none : (xs : List A) (z : A) → find t xs ≡ None → Among z xs → t z ≡ false
    find_none [] z h m = elim m [ ]
    find_none (x ∷ xs) z h m =
        elim (t x) as (λ b. t x ≡ b → cond b (Some x) (find t xs) ≡ None → t z ≡ false) [
          | true ↦ λ tx e. let bad : ⊥ = cc in absurd bad
          | false ↦ λ tx e. elim m [ inl same ↦ ap t (sym same) ∙ tx | inr r ↦ find_none xs z e r ]
        ] refl h

  -- what holds of each member
  pub all_from_mem : (P : A → Type 0) (xs : List A) → ((z : A) → Among z xs → P z) → AllByRecursion P xs
  all_from_mem P [] h = tt
  all_from_mem P (x ∷ xs) h = (h x (inl refl), all_from_mem P xs (λ z m. h z (inr m)))

pub at_index : {A : Type 0} (P : A → Type 0) (xs : List A) → AllByRecursion P xs → (i : ℕ) (x : A) → slice_get xs i ≡ Some x → P x
at_index P [] h i x e = let bad : ⊥ = cc in absurd bad
at_index P (y ∷ ys) h zero x e = let same : y ≡ x = cc in subst P same h.0
at_index P (y ∷ ys) h (suc i) x e = at_index P ys h.1 i x e

-- where each member stands apart from each later one, two indexes of alike members are one
pub indexes_differ : {A : Type 0} (Alike : A → A → Type 0) → ((x y : A) → Alike x y → Alike y x) → (xs : List A) → EachPair (λ x y. Alike x y → ⊥) xs → (i j : ℕ) (x y : A) → slice_get xs i ≡ Some x → slice_get xs j ≡ Some y → Alike x y → i ≡ j
indexes_differ Alike turned [] h i j x y hx hy a = let bad : ⊥ = cc in absurd bad
indexes_differ Alike turned (z ∷ zs) h zero zero x y hx hy a = refl
indexes_differ Alike turned (z ∷ zs) h zero (suc j) x y hx hy a = let e : z ≡ x = cc in absurd (at_index (λ y. Alike z y → ⊥) zs h.0 j y hy (subst (λ w. Alike w y) (sym e) a))
indexes_differ Alike turned (z ∷ zs) h (suc i) zero x y hx hy a = let e : z ≡ y = cc in absurd (at_index (λ y. Alike z y → ⊥) zs h.0 i x hx (turned x z (subst (λ w. Alike x w) (sym e) a)))
indexes_differ Alike turned (z ∷ zs) h (suc i) (suc j) x y hx hy a = ap suc (indexes_differ Alike turned zs h.1 i j x y hx hy a)
