-- Walks that grow and shrink at their end.
use Rattle.tx_rank.proofs.Common.{◌≡◌, ◌≢◌, ℕ, zero, suc, List, [], ◌∷◌, ◌++◌, length, inl, inr, Some, refl, sym, ap, subst, arith, slice_get, Among, all_among, among_all, among_left, among_right, among_cases, Net, AllDiffer, Goes, end_of, before_end, passed}

-- NOTHING TWICE

pub once_first : (x : ℕ) (xs : List ℕ) → AllDiffer (x ∷ xs) → Among x xs → ⊥
once_first x xs d m = all_among (λ y. x ≢ y) xs x d.0 m refl

pub once_cons : (x : ℕ) (xs : List ℕ) → (Among x xs → ⊥) → AllDiffer xs → AllDiffer (x ∷ xs)
once_cons x xs h d = (among_all (λ y. x ≢ y) xs (λ y m e. h (subst (λ (k : ℕ). Among k xs) (sym e) m)), d)

pub once_push : (xs : List ℕ) (y : ℕ) → AllDiffer xs → (Among y xs → ⊥) → AllDiffer (xs ++ y ∷ [])
once_push [] y d h = (tt, tt)
once_push (x ∷ xs) y d h =
    once_cons x (xs ++ y ∷ []) (λ m. elim (among_cases x xs (y ∷ []) m) [ inl l ↦ once_first x xs d l | inr r ↦ elim r [ inl e ↦ h (inl (sym e)) | inr b ↦ b ] ])
    (once_push xs y d.1 (λ m. h (inr m)))

pub once_pop : (xs : List ℕ) (y : ℕ) → AllDiffer (xs ++ y ∷ []) → AllDiffer xs × (Among y xs → ⊥)
once_pop [] y d = (tt, λ m. m)
once_pop (x ∷ xs) y d =
    let i = once_pop xs y d.1 in
    let no : Among x (xs ++ y ∷ []) → ⊥ = once_first x (xs ++ y ∷ []) d in
    (once_cons x xs (λ m. no (among_left x xs (y ∷ []) m)) i.0, λ m. elim m [ inl e ↦ no (among_right x xs (y ∷ []) (inl (sym e))) | inr h ↦ i.1 h ])

-- ONE STEP MORE

pub end_push : (x : ℕ) (steps : List (ℕ × ℕ)) (s : ℕ × ℕ) → end_of x (steps ++ s ∷ []) ≡ s.1
end_push x [] s = refl
end_push x (t ∷ steps) s = end_push t.1 steps s

pub passed_push : (x : ℕ) (steps : List (ℕ × ℕ)) (s : ℕ × ℕ) → passed x (steps ++ s ∷ []) ≡ passed x steps ++ s.1 ∷ []
passed_push x [] s = refl
passed_push x (t ∷ steps) s = ap (λ l. x ∷ l) (passed_push t.1 steps s)

pub before_push : (x : ℕ) (steps : List (ℕ × ℕ)) (s : ℕ × ℕ) → before_end x (steps ++ s ∷ []) ≡ passed x steps
before_push x [] s = refl
before_push x (t ∷ steps) s = ap (λ l. x ∷ l) (before_push t.1 steps s)

pub end_passed : (x : ℕ) (steps : List (ℕ × ℕ)) → Among (end_of x steps) (passed x steps)
end_passed x [] = inl refl
end_passed x (s ∷ steps) = inr (end_passed s.1 steps)

module _ (n : Net) where
  pub goes_push : (x : ℕ) (steps : List (ℕ × ℕ)) (s : ℕ × ℕ) → Goes n x steps → end_of x steps ≢ n.home → Among s.0 (n.list (end_of x steps)) → n.far s.0 (end_of x steps) ≡ Some s.1 → Goes n x (steps ++ s ∷ [])
  goes_push x [] s go away m leads = (away, m, leads, tt)
  goes_push x (t ∷ steps) s go away m leads = (go.0, go.1, go.2, goes_push t.1 steps s go.3 away m leads)

  pub goes_pop : (x : ℕ) (steps : List (ℕ × ℕ)) (s : ℕ × ℕ) → Goes n x (steps ++ s ∷ []) → Goes n x steps
  goes_pop x [] s go = tt
  goes_pop x (t ∷ steps) s go = (go.0, go.1, go.2, goes_pop t.1 steps s go.3)

-- the last step leads to the end
pub end_last : (x : ℕ) (steps : List (ℕ × ℕ)) (k : ℕ) (s : ℕ × ℕ) → suc k ≡ length steps → slice_get steps k ≡ Some s → s.1 ≡ end_of x steps
end_last x [] k s e h = absurd (omega arith)
end_last x (t ∷ []) zero s e h = let same : t ≡ s = cc in ap (λ (p : ℕ × ℕ). p.1) (sym same)
end_last x (t ∷ []) (suc k) s e h = absurd (omega arith)
end_last x (t ∷ u ∷ steps) zero s e h = absurd (omega arith)
end_last x (t ∷ u ∷ steps) (suc k) s e h = end_last t.1 (u ∷ steps) k s (omega arith) h
