-- A pass over a list that changes each member in place.
use Rattle.tx_machine.proofs.Common.{◌≡◌, ℕ, zero, suc, ◌<◌, List, [], ◌∷◌, ◌++◌, ◌⊎◌, inl, inr, map, take, drop, length, get_or, ap, ◌∙◌, arith, slice_set, Among}

module _ {X Y : Type 0} (f : X → Y) (F : Y → Y) where
  -- what is left after the change of one member
  pub step_seen : (xs : List X) (i : ℕ) (x y : X) → i < length xs → x ≡ get_or xs i x → f y ≡ F (f x) → map f (take (suc i) (slice_set xs i y)) ++ map F (map f (drop (suc i) (slice_set xs i y))) ≡ map f (take i xs) ++ map F (map f (drop i xs))
  step_seen [] i x y h e s = absurd (omega arith)
  step_seen (z ∷ zs) zero x y h e s = ap (λ w. w ∷ map F (map f zs)) (s ∙ ap (λ w. F (f w)) e)
  step_seen (z ∷ zs) (suc i) x y h e s = ap (λ l. f z ∷ l) (step_seen zs i x y (omega arith) e s)

-- the members of a list with one replaced
pub mem_set : {X : Type 0} (xs : List X) (i : ℕ) (y z : X) → Among z (slice_set xs i y) → (y ≡ z) ⊎ Among z xs
mem_set [] i y z m = elim m [ ]
mem_set (x ∷ xs) zero y z m = elim m [ inl e ↦ inl e | inr r ↦ inr (inr r) ]
mem_set (x ∷ xs) (suc i) y z m = elim m [ inl e ↦ inr (inl e) | inr r ↦ elim (mem_set xs i y z r) [ inl e ↦ inl e | inr q ↦ inr (inr q) ] ]

-- the members up to one that was replaced
pub mem_take_set : {X : Type 0} (xs : List X) (i : ℕ) (y z : X) → Among z (take (suc i) (slice_set xs i y)) → (y ≡ z) ⊎ Among z (take i xs)
mem_take_set [] i y z m = elim m [ ]
mem_take_set (x ∷ xs) zero y z m = elim m [ inl e ↦ inl e | inr r ↦ absurd r ]
mem_take_set (x ∷ xs) (suc i) y z m = elim m [ inl e ↦ inr (inl e) | inr r ↦ elim (mem_take_set xs i y z r) [ inl e ↦ inl e | inr q ↦ inr (inr q) ] ]
