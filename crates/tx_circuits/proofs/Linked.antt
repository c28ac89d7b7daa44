-- A free index is put on a list, or taken off it; and a list is linked exactly where its links give the free indexes in order.
use Rattle.tx_circuits.proofs.Common.{◌≡◌, ◌≢◌, ℕ, ◌+◌, ◌-◌, ◌<◌, ◌≤◌, ◌⊎◌, inl, inr, Bool, true, false, cond, Option, Some, None, refl, sym, ap, subst, ◌∙◌, arith, eq-eqb, unwrap_or, Way, Up, Down, IsFirst, IsLast, IsLinked, with, rank_of, back}
use Rattle.std.proofs.lemmas.Bool.Decides.{leb_tells, eqb_tells}

-- a function with another value, at the index and elsewhere
pub with_here : {A : Type 0} (f : ℕ → A) (i : ℕ) (y : A) → with f i y i ≡ y
with_here f i y = ap (λ b. cond b y (f i)) (eq-eqb i i refl)

pub with_there : {A : Type 0} (f : ℕ → A) (i k : ℕ) (y : A) → k ≢ i → with f i y k ≡ f k
with_there f i k y apart = elim (eqb_tells k i) [ inl h ↦ absurd (apart h.1) | inr h ↦ ap (λ b. cond b y (f k)) h.0 ]

pub le_or : (a b : ℕ) → (a ≤ b) ⊎ (b < a)
le_or a b = elim (leb_tells a b) [ inl h ↦ inl h.1 | inr h ↦ inr h.1 ]

some_is : (j k : ℕ) → Some j ≡ Some k → j ≡ k
some_is j k e = ap (λ o. unwrap_or o 0) e

-- the ranks that come after an index
abbrev pub beyond : (ℕ → ℕ) → Option ℕ → ℕ
beyond rank None = 0
beyond rank (Some k) = rank k + 1

-- The free indexes are numbers below 240, which have different ranks.
pub record AreRanked (free : ℕ → Bool) (rank : ℕ → ℕ) : Type 0 where
  pub within : (k : ℕ) → free k ≡ true → k < 240
  pub one : (j k : ℕ) → j < 240 → k < 240 → rank j ≡ rank k → j ≡ k

-- how an index is put on a list
module _ (free free' : ℕ → Bool) (rank : ℕ → ℕ) (ranked : AreRanked free rank) (i : ℕ) (i_in : i < 240)
    (here : free' i ≡ true) (was : free i ≡ false) (more : (k : ℕ) → k ≢ i → free' k ≡ free k) where
  -- what is free now is the new index, or was free
  which : (k : ℕ) → free' k ≡ true → (k ≡ i) ⊎ ((k ≢ i) × (free k ≡ true))
  which k f = elim (eqb_tells k i) [ inl h ↦ inl h.1 | inr h ↦ inr (h.1, sym (more k h.1) ∙ f) ]

  -- what was free is free, and has another rank
  kept : (k : ℕ) → free k ≡ true → (free' k ≡ true) × (rank k ≢ rank i)
  kept k f = elim (eqb_tells k i) [
    | inl h ↦ absurd (let bad : true ≡ false = sym f ∙ subst (λ j. free j ≡ false) (sym h.1) was in cc)
    | inr h ↦ (more k h.1 ∙ f, λ e. h.1 (ranked.one k i (ranked.within k f) i_in e))
  ]

  -- a first free index from `low` on stays so where the new index comes before `low`
  first_past : (low : ℕ) (r : Option ℕ) → rank i < low → IsFirst free rank low r → IsFirst free' rank low r
  first_past low None h l = λ k f. elim (which k f) [ inl e ↦ subst (λ j. rank j < low) (sym e) h | inr w ↦ l k w.1 ]
  first_past low (Some j) h l = (
    (kept j l.0).0,
    l.1,
    λ k f le. elim (which k f) [
      | inl e ↦ absurd (let bad : rank k < low = subst (λ x. rank x < low) (sym e) h in omega arith)
      | inr w ↦ l.2 k w.1 le
    ],
  )

  -- or where it comes after the index that was found
  first_before : (low j : ℕ) → rank j ≤ rank i → IsFirst free rank low (Some j) → IsFirst free' rank low (Some j)
  first_before low j h l = ((kept j l.0).0, l.1, λ k f le. elim (which k f) [ inl e ↦ subst (λ x. rank j ≤ rank x) (sym e) h | inr w ↦ l.2 k w.1 le ])

  -- the new index is the first from `low` on where no other comes between
  first_new : (low : ℕ) → low ≤ rank i → ((k : ℕ) → free k ≡ true → low ≤ rank k → rank i ≤ rank k) → IsFirst free' rank low (Some i)
  first_new low h first = (here, h, λ k f le. elim (which k f) [ inl e ↦ (let same : rank k ≡ rank i = ap rank e in omega arith) | inr w ↦ first k w.1 le ])

  -- after the last index that comes before the new one comes what is first after it
  pub after_last : (q r : Option ℕ) → IsLast free rank (rank i) q → IsFirst free rank (beyond rank q) r → IsFirst free rank (rank i + 1) r
  after_last None None last l = λ k f. let bad : rank k < 0 = l k f in absurd (omega arith)
  after_last (Some p) None last l = λ k f. let a : rank k < rank p + 1 = l k f in let b : rank p < rank i = last.1 in omega arith
  after_last None (Some j) last l =
      let a : rank i ≤ rank j = last j l.0 in let b : rank j ≢ rank i = (kept j l.0).1 in
      (l.0, omega arith, λ k f le. l.2 k f (omega arith))
  after_last (Some p) (Some j) last l =
      let a : rank i ≤ rank j = elim (le_or (rank i) (rank j)) [
        | inl y ↦ y
        | inr y ↦ absurd (let c : rank j ≤ rank p = last.2 j l.0 y in let d : rank p + 1 ≤ rank j = l.1 in omega arith)
      ] in
      let b : rank j ≢ rank i = (kept j l.0).1 in let c : rank p < rank i = last.1 in
      (l.0, omega arith, λ k f le. l.2 k f (omega arith))

  module _ (next next' : Option ℕ → Option ℕ) (list : IsLinked free rank next) (found : IsFirst free rank (rank i + 1) (next' (Some i))) where
    at_new : (k : ℕ) → k ≡ i → IsFirst free' rank (rank k + 1) (next' (Some k))
    at_new k e = subst (λ j. IsFirst free' rank (rank j + 1) (next' (Some j))) (sym e) (first_past (rank i + 1) (next' (Some i)) (omega arith) found)

    -- The new index comes after the last one before it, or begins the list.
    pub put : (q : Option ℕ) → IsLast free rank (rank i) q → next' q ≡ Some i → ((k : Option ℕ) → k ≢ Some i → k ≢ q → next' k ≡ next k) → IsLinked free' rank next'
    put None none joined rest = record {
      begins = subst (IsFirst free' rank 0) (sym joined) (first_new 0 (omega arith) (λ k f le. none k f));
      goes_on = λ k f. elim (which k f) [
        | inl e ↦ at_new k e
        | inr w ↦ subst (IsFirst free' rank (rank k + 1)) (sym (rest (Some k) (λ e. w.0 (some_is k i e)) (λ e. absurd cc)))
            (first_past (rank k + 1) (next (Some k)) (let a : rank i ≤ rank k = none k w.1 in omega arith) (list.goes_on k w.1))
      ];
    }
    put (Some p) last joined rest = record {
      begins = subst (IsFirst free' rank 0) (sym (rest None (λ e. absurd cc) (λ e. absurd cc))) (start (next None) list.begins);
      goes_on = λ k f. elim (which k f) [
        | inl e ↦ at_new k e
        | inr w ↦ elim (eqb_tells k p) [
          | inl e ↦ subst (λ j. IsFirst free' rank (rank j + 1) (next' (Some j))) (sym e.1) (subst (IsFirst free' rank (rank p + 1)) (sym joined)
              (first_new (rank p + 1) (let a : rank p < rank i = last.1 in omega arith) past_p))
          | inr e ↦ subst (IsFirst free' rank (rank k + 1)) (sym (rest (Some k) (λ x. w.0 (some_is k i x)) (λ x. e.1 (some_is k p x))))
              (other k w.1 e.1 (next (Some k)) (list.goes_on k w.1))
        ]
      ];
    }
      where
        past_p : (k : ℕ) → free k ≡ true → rank p + 1 ≤ rank k → rank i ≤ rank k
        past_p k f le = elim (le_or (rank i) (rank k)) [ inl y ↦ y | inr y ↦ absurd (let a : rank k ≤ rank p = last.2 k f y in omega arith) ]

        start : (r : Option ℕ) → IsFirst free rank 0 r → IsFirst free' rank 0 r
        start None l = absurd (let a : rank p < 0 = l p last.0 in omega arith)
        start (Some h) l = first_before 0 h (let a : rank h ≤ rank p = l.2 p last.0 (omega arith) in let b : rank p < rank i = last.1 in omega arith) l

        beyond_k : (k : ℕ) → rank k + 1 ≤ rank p → (r : Option ℕ) → IsFirst free rank (rank k + 1) r → IsFirst free' rank (rank k + 1) r
        beyond_k k le None l = absurd (let a : rank p < rank k + 1 = l p last.0 in omega arith)
        beyond_k k le (Some n) l = first_before (rank k + 1) n (let a : rank n ≤ rank p = l.2 p last.0 le in let b : rank p < rank i = last.1 in omega arith) l

        other : (k : ℕ) → free k ≡ true → k ≢ p → (r : Option ℕ) → IsFirst free rank (rank k + 1) r → IsFirst free' rank (rank k + 1) r
        other k f ne r l = elim (le_or (rank i) (rank k)) [
          | inl y ↦ first_past (rank k + 1) r (omega arith) l
          | inr y ↦ beyond_k k (let a : rank k ≤ rank p = last.2 k f y in
              let b : rank k ≢ rank p = λ e. ne (ranked.one k p (ranked.within k f) (ranked.within p last.0) e) in omega arith) r l
        ]

-- how an index is taken off
module _ (free free' : ℕ → Bool) (rank : ℕ → ℕ) (ranked : AreRanked free rank) (i : ℕ)
    (gone : free' i ≡ false) (was : free i ≡ true) (less : (k : ℕ) → k ≢ i → free' k ≡ free k) where
  one : (j k : ℕ) → free j ≡ true → free k ≡ true → rank j ≡ rank k → j ≡ k
  one j k f g e = ranked.one j k (ranked.within j f) (ranked.within k g) e

  stood : (k : ℕ) → free' k ≡ true → (k ≢ i) × (free k ≡ true)
  stood k f = elim (eqb_tells k i) [
    | inl h ↦ absurd (let bad : true ≡ false = sym f ∙ subst (λ j. free' j ≡ false) (sym h.1) gone in cc)
    | inr h ↦ (h.1, sym (less k h.1) ∙ f)
  ]

  -- a first free index from `low` on stays so where it is not the one that goes
  first_still : (low : ℕ) (r : Option ℕ) → ((j : ℕ) → r ≡ Some j → j ≢ i) → IsFirst free rank low r → IsFirst free' rank low r
  first_still low None ne l = λ k f. l k (stood k f).1
  first_still low (Some j) ne l = (less j (ne j refl) ∙ l.0, l.1, λ k f le. l.2 k (stood k f).1 le)

  -- and what comes after the one that goes is first from each rank between the one before and it
  first_next : (low : ℕ) (r : Option ℕ) → low ≤ rank i → ((k : ℕ) → free k ≡ true → low ≤ rank k → rank i ≤ rank k) → IsFirst free rank (rank i + 1) r → IsFirst free' rank low r
  first_next low None h first l = λ k f. elim (le_or low (rank k)) [
    | inl y ↦ absurd (let a : rank i ≤ rank k = first k (stood k f).1 y in let b : rank k < rank i + 1 = l k (stood k f).1 in
        let same : rank k ≡ rank i = omega arith in (stood k f).0 (one k i (stood k f).1 was same))
    | inr y ↦ y
  ]
  first_next low (Some j) h first l =
      let ne : j ≢ i = λ e. let same : rank j ≡ rank i = ap rank e in let a : rank i + 1 ≤ rank j = l.1 in absurd (omega arith) in (
        less j ne ∙ l.0,
        (let a : rank i + 1 ≤ rank j = l.1 in omega arith),
        λ k f le.
            let a : rank i ≤ rank k = first k (stood k f).1 le in
            let b : rank k ≢ rank i = λ e. (stood k f).0 (one k i (stood k f).1 was e) in
            l.2 k (stood k f).1 (omega arith),
      )

  module _ (next next' : Option ℕ → Option ℕ) (list : IsLinked free rank next) where
    -- What came after the index now comes after the last one before it.
    pub take : (q : Option ℕ) → IsLast free rank (rank i) q → next' q ≡ next (Some i) → ((k : Option ℕ) → k ≢ q → next' k ≡ next k) → IsLinked free' rank next'
    take None none joined rest = record {
      begins = subst (IsFirst free' rank 0) (sym joined) (first_next 0 (next (Some i)) (omega arith) (λ k f le. none k f) (list.goes_on i was));
      goes_on = λ k f. let w = stood k f in subst (IsFirst free' rank (rank k + 1)) (sym (rest (Some k) (λ e. absurd cc))) (first_still (rank k + 1) (next (Some k)) (λ j e ej.
          let l = subst (IsFirst free rank (rank k + 1)) (e ∙ ap Some ej) (list.goes_on k w.1) in
          let a : rank i ≤ rank k = none k w.1 in let b : rank k + 1 ≤ rank i = l.1 in absurd (omega arith)) (list.goes_on k w.1));
    }
    take (Some p) last joined rest = record {
      begins = subst (IsFirst free' rank 0) (sym (rest None (λ e. absurd cc))) (first_still 0 (next None) (λ j e ej.
          let l = subst (IsFirst free rank 0) (e ∙ ap Some ej) list.begins in
          let a : rank i ≤ rank p = l.2 p last.0 (omega arith) in let b : rank p < rank i = last.1 in absurd (omega arith)) list.begins);
      goes_on = λ k f. let w = stood k f in elim (eqb_tells k p) [
        | inl e ↦ subst (λ j. IsFirst free' rank (rank j + 1) (next' (Some j))) (sym e.1) (subst (IsFirst free' rank (rank p + 1)) (sym joined)
            (first_next (rank p + 1) (next (Some i)) (let b : rank p < rank i = last.1 in omega arith) past_p (list.goes_on i was)))
        | inr e ↦ subst (IsFirst free' rank (rank k + 1)) (sym (rest (Some k) (λ x. e.1 (some_is k p x)))) (first_still (rank k + 1) (next (Some k)) (λ j ej ji.
            let l = subst (IsFirst free rank (rank k + 1)) (ej ∙ ap Some ji) (list.goes_on k w.1) in
            let b : rank k + 1 ≤ rank i = l.1 in
            let c : rank k ≤ rank p = last.2 k w.1 (omega arith) in
            let d : rank k ≢ rank p = λ same. e.1 (one k p w.1 last.0 same) in
            let f : rank i ≤ rank p = l.2 p last.0 (omega arith) in
            let h : rank p < rank i = last.1 in absurd (omega arith)) (list.goes_on k w.1))
      ];
    }
      where
        past_p : (k : ℕ) → free k ≡ true → rank p + 1 ≤ rank k → rank i ≤ rank k
        past_p k f le = elim (le_or (rank i) (rank k)) [ inl y ↦ y | inr y ↦ absurd (let a : rank k ≤ rank p = last.2 k f y in omega arith) ]

-- what is last before an index in one way is first after it in the other
module _ (free : ℕ → Bool) (within : (k : ℕ) → free k ≡ true → k < 240) (i : ℕ) (i_in : i < 240) where
  pub to_first : (w : Way) (r : Option ℕ) → IsLast free (rank_of (back w)) (rank_of (back w) i) r → IsFirst free (rank_of w) (rank_of w i + 1) r
  to_first Up None l = λ k f. let a = within k f in let b : 255 - i ≤ 255 - k = l k f in omega arith
  to_first Up (Some j) l =
      let a = within j l.0 in let b : 255 - j < 255 - i = l.1 in
      (l.0, omega arith, λ k f le. let c = within k f in let d : 255 - k ≤ 255 - j = l.2 k f (omega arith) in omega arith)
  to_first Down None l = λ k f. let a = within k f in let b : i ≤ k = l k f in omega arith
  to_first Down (Some j) l =
      let a = within j l.0 in let b : j < i = l.1 in
      (l.0, omega arith, λ k f le. let c = within k f in let d : k ≤ j = l.2 k f (omega arith) in omega arith)

  pub to_last : (w : Way) (r : Option ℕ) → IsFirst free (rank_of (back w)) (rank_of (back w) i + 1) r → IsLast free (rank_of w) (rank_of w i) r
  to_last Up None l = λ k f. let a = within k f in let b : 255 - k < 255 - i + 1 = l k f in omega arith
  to_last Up (Some j) l =
      let a = within j l.0 in let b : 255 - i + 1 ≤ 255 - j = l.1 in
      (l.0, omega arith, λ k f le. let c = within k f in let d : 255 - j ≤ 255 - k = l.2 k f (omega arith) in omega arith)
  to_last Down None l = λ k f. let a = within k f in let b : k < i + 1 = l k f in omega arith
  to_last Down (Some j) l =
      let a = within j l.0 in let b : i + 1 ≤ j = l.1 in
      (l.0, omega arith, λ k f le. let c = within k f in let d : j ≤ k = l.2 k f (omega arith) in omega arith)

pub ranks_differ : (w : Way) (j k : ℕ) → j < 240 → k < 240 → rank_of w j ≡ rank_of w k → j ≡ k
ranks_differ Up j k a b e = e
ranks_differ Down j k a b e = omega arith

pub are_ranked : (w : Way) (free : ℕ → Bool) → ((k : ℕ) → free k ≡ true → k < 240) → AreRanked free (rank_of w)
are_ranked w free within = record { within = within; one = ranks_differ w }

-- to write what is there changes nothing
with_at : {A : Type 0} (f : ℕ → A) (i : ℕ) (y : A) → y ≡ f i → (k : ℕ) → f k ≡ with f i y k
with_at f i y e k = elim (eqb_tells k i) [
  | inl h ↦ sym (ap (λ b. cond b y (f k)) h.0 ∙ e ∙ ap f (sym h.1))
  | inr h ↦ sym (ap (λ b. cond b y (f k)) h.0)
]

pub with_same : {A : Type 0} (f : ℕ → A) (i : ℕ) (y : A) → y ≡ f i → f ≡ with f i y
with_same f i y e = λ j k. with_at f i y e k j

-- a list is one of each function that is equal at each index
pub linked_along : (free free' : ℕ → Bool) (rank : ℕ → ℕ) (next next' : Option ℕ → Option ℕ) → ((k : ℕ) → free k ≡ free' k) → ((q : Option ℕ) → next q ≡ next' q)
    → IsLinked free rank next → IsLinked free' rank next'
linked_along free free' rank next next' ef en list =
    let f : free ≡ free' = λ i k. ef k i in
    let n : next ≡ next' = λ i q. en q i in
    subst (λ g. IsLinked g rank next') f (subst (λ g. IsLinked free rank g) n list)
