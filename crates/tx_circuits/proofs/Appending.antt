-- A free circuit is put after all others of a list that holds those below it.
use Rattle.tx_circuits.proofs.Common.{◌≡◌, ◌≢◌, ◌∙◌, ℕ, ◌+◌, ◌-◌, ◌<◌, ◌≤◌, ◌⊎◌, inl, inr, Bool, true, false, Option, Some, None, refl, sym, ap, arith, nat_lt, ◌&&◌, unwrap_or, eqb_tells, nat_tests, Up, Down, IsFirst, IsLast, until, rank_of}
use Rattle.std.proofs.lemmas.Bool.{and_parts, and_from, and_right}
use Rattle.tx_plan.proofs.Lists.{below}
use Rattle.tx_circuits.proofs.Linked.{le_or}

lt_false : (k n : ℕ) → n ≤ k → nat_lt k n ≡ false
lt_false k n h = grind (arith, nat_tests)

pub ltb_tells : (k n : ℕ) → ((nat_lt k n ≡ true) × (k < n)) ⊎ ((nat_lt k n ≡ false) × (n ≤ k))
ltb_tells k n = elim (le_or n k) [ inl y ↦ inr (lt_false k n y, y) | inr y ↦ inl (below k n y, y) ]

module _ (free : ℕ → Bool) where
  pub until_is : (n k : ℕ) → until n free k ≡ true → (k < n) × (free k ≡ true)
  until_is n k h = let p = and_parts (nat_lt k n) (free k) h in (elim (ltb_tells k n) [ inl a ↦ a.1 | inr b ↦ absurd (let bad : true ≡ false = sym p.0 ∙ b.0 in cc) ], p.1)

  pub until_none : (k : ℕ) → until 0 free k ≡ false
  until_none k = ap (λ b. b && free k) (lt_false k 0 (omega arith))

  -- all of them
  pub until_all : (n : ℕ) → ((k : ℕ) → free k ≡ true → k < n) → (k : ℕ) → until n free k ≡ free k
  until_all n inside k = elim (ltb_tells k n) [
    | inl a ↦ ap (λ b. b && free k) a.0
    | inr b ↦ ap (λ x. x && free k) b.0 ∙ sym (not_free (free k) refl b.1)
  ]
    where
      not_free : (b : Bool) → free k ≡ b → n ≤ k → free k ≡ false
      not_free true e le = absurd (let lt : k < n = inside k e in omega arith)
      not_free false e le = e

  module _ (i : ℕ) where
    -- the next index alone may come new
    pub until_other : (k : ℕ) → k ≢ i → until (i + 1) free k ≡ until i free k
    until_other k ne = elim (ltb_tells k i) [
      | inl a ↦ ap (λ b. b && free k) (below k (i + 1) (let c : k < i = a.1 in omega arith) ∙ sym a.0)
      | inr b ↦ ap (λ x. x && free k) (lt_false k (i + 1) (let c : i ≤ k = b.1 in omega arith) ∙ sym b.0)
    ]

    pub until_now : free i ≡ true → until (i + 1) free i ≡ true
    until_now f = and_from (nat_lt i (i + 1)) (free i) (below i (i + 1) (omega arith)) f

    pub until_before : until i free i ≡ false
    until_before = ap (λ b. b && free i) (lt_false i i (omega arith))

    -- where the next index is not free, there is no new one
    pub until_skips : free i ≡ false → (k : ℕ) → until i free k ≡ until (i + 1) free k
    until_skips f k = elim (eqb_tells k i) [
      | inl e ↦ (let none : free k ≡ false = ap free e.1 ∙ f in and_right (nat_lt k i) (free k) none ∙ sym (and_right (nat_lt k (i + 1)) (free k) none))
      | inr d ↦ sym (until_other k d.1)
    ]

    module _ (i_in : i < 240) where
      inside : (k : ℕ) → until i free k ≡ true → k < i
      inside k f = (until_is i k f).0

      -- the greatest is the last before the next index
      pub greatest_last : (r : Option ℕ) → IsFirst (until i free) (rank_of Down) 0 r → IsLast (until i free) (rank_of Up) (rank_of Up i) r
      greatest_last None l = λ k f. absurd (let a : 255 - k < 0 = l k f in omega arith)
      greatest_last (Some j) l = let a = inside j l.0 in (l.0, a, λ k f lt. let b : 255 - j ≤ 255 - k = l.2 k f (omega arith) in omega arith)

      pub none_above : IsLast (until i free) (rank_of Down) (rank_of Down i) None
      none_above = λ k f. let a = inside k f in omega arith

      pub none_after : IsFirst (until i free) (rank_of Up) (rank_of Up i + 1) None
      none_after = λ k f. let a = inside k f in omega arith

      pub greatest_next : (r : Option ℕ) → IsFirst (until i free) (rank_of Down) 0 r → IsFirst (until i free) (rank_of Down) (rank_of Down i + 1) r
      greatest_next None l = λ k f. absurd (let a : 255 - k < 0 = l k f in omega arith)
      greatest_next (Some j) l = let a = inside j l.0 in (l.0, omega arith, λ k f le. l.2 k f (omega arith))

      pub not_greatest : (r : Option ℕ) → IsFirst (until i free) (rank_of Down) 0 r → Some i ≢ r
      not_greatest None l e = absurd cc
      not_greatest (Some j) l e = (let a = inside j l.0 in let same : i ≡ j = ap (λ o. unwrap_or o 0) e in absurd (omega arith))
