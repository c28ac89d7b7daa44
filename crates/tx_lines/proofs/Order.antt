-- The last range that starts by a number is the one that may have it.
use Rattle.std.proofs.Common.{◌≡◌, ℕ, suc, ◌+◌, ◌<◌, ◌≤◌, ◌==◌, Bool, true, false, ◌&&◌, List, [], ◌∷◌, length, get_or, cond, nat_lt, Some, refl, ap, sym, ◌∙◌, inl, inr, eqb-true, eq-eqb, arith}
use Rattle.std.proofs.lemmas.Bool.{and_parts, or_cases, false≢true}
use Rattle.tx_lines.proofs.Common.{nat_tests, slice_get, list_any, IsPartitionedBy, IsPartitionPoint, Ordering, Less, Equal, Greater, at_most, in_range, LineRange}
use Rattle.std.proofs.lemmas.Cmp.{on_total, then_total, upto, nat_cmp_total, nat_list_cmp_total}
use Rattle.std.proofs.lemmas.List.Sorted.{sorted_far, ranks_by}
use Rattle.std.proofs.lemmas.Option.{slice_get_within, get_or_from_slice_get}
use Rattle.std.specs.Cmp.{IsTotalOrder}
use Rattle.std.specs.Ordering.{ordering_then, ordering_reverse, is_lt, is_le, is_gt, nat_cmp}
use Rattle.std.specs.Cmp.Lexicographic.{slice_cmp}
use Rattle.std.proofs.lemmas.Map.Keys.{any_passes_from_place}
use Rattle.tx_plan.proofs.Lists.{same_tests}
use Rattle.tx_lines.specs.inner.Ordered.{Key, key_cmp, start_of, IsInOrder}

pub keys_total : IsTotalOrder key_cmp
keys_total = then_total (on_total (λ (x : Key). x.0) nat_cmp_total) (then_total (on_total (λ (x : Key). length x.1) nat_cmp_total) (on_total (λ (x : Key). x.1) nat_list_cmp_total))

le_not_gt : (o : Ordering) → is_le o ≡ true → is_gt o ≡ false
le_not_gt Less h = refl
le_not_gt Equal h = refl
le_not_gt Greater h = absurd (false≢true h)

not_gt_le : (o : Ordering) → is_gt o ≡ false → is_le o ≡ true
not_gt_le Less h = refl
not_gt_le Equal h = refl
not_gt_le Greater h = absurd (false≢true (sym h))

pub le_trans : {K : Type 0} {R : K → K → Ordering} → IsTotalOrder R → (x y z : K) → is_le (R x y) ≡ true → is_le (R y z) ≡ true → is_le (R x z) ≡ true
le_trans {R} o x y z h k = not_gt_le (R x z) (upto o x y z (le_not_gt (R x y) h) (le_not_gt (R y z) k))

-- not before, so at or after
at_or_after : {K : Type 0} {R : K → K → Ordering} → IsTotalOrder R → (x y : K) → is_lt (R y x) ≡ false → is_le (R x y) ≡ true
at_or_after {R} o x y h = ap is_le (o.antisymm x y) ∙ by (R y x) h
  where
    by : (q : Ordering) → is_lt q ≡ false → is_le (ordering_reverse q) ≡ true
    by Less h = absurd (false≢true (sym h))
    by Equal h = refl
    by Greater h = refl

-- at most in the first part, and where that ties in the rest
pub first_part : (a b : ℕ) (o : Ordering) → is_le (ordering_then (nat_cmp a b) o) ≡ true → (a ≤ b) × (a ≡ b → is_le o ≡ true)
first_part a b o h =
    elim (nat_lt a b) as (λ t. nat_lt a b ≡ t → is_le (ordering_then (cond t Less (cond (a == b) Equal Greater)) o) ≡ true → (a ≤ b) × (a ≡ b → is_le o ≡ true)) [
      | true ↦ λ e k. let l : a < b = grind (arith, nat_tests) in (omega arith, λ s. absurd (omega (arith, s)))
      | false ↦ λ e k. elim (a == b) as (λ t. (a == b) ≡ t → is_le (ordering_then (cond t Equal Greater) o) ≡ true → (a ≤ b) × (a ≡ b → is_le o ≡ true)) [
        | true ↦ λ f m. let s = eqb-true a b f in (omega arith, λ _. m)
        | false ↦ λ f m. absurd (false≢true m)
      ] refl k
    ] refl h

-- between two keys of one code and width
between : (c d : ℕ) (low mid high : List ℕ) → is_le (key_cmp (c, low) (d, mid)) ≡ true → is_le (key_cmp (d, mid) (c, high)) ≡ true → length low ≡ length high
    → (d ≡ c) × (length mid ≡ length high) × (at_most low mid ≡ true) × (at_most mid high ≡ true)
between c d low mid high h k same =
    let p = first_part c d (ordering_then (nat_cmp (length low) (length mid)) (slice_cmp nat_cmp low mid)) h in
    let q = first_part d c (ordering_then (nat_cmp (length mid) (length high)) (slice_cmp nat_cmp mid high)) k in
    let e : c ≡ d = (let a = p.0 in let b = q.0 in omega arith) in
    let r = first_part (length low) (length mid) (slice_cmp nat_cmp low mid) (p.1 e) in
    let s = first_part (length mid) (length high) (slice_cmp nat_cmp mid high) (q.1 (sym e)) in
    let w : length mid ≡ length high = (let a = r.0 in let b = s.0 in omega arith) in
    (sym e, w, r.1 (same ∙ sym w), s.1 w)

-- one that passes is at an index of the list
any_at : {A : Type 0} (t : A → Bool) (xs : List A) → list_any t xs ≡ true → (i : ℕ) × (x : A) × (slice_get xs i ≡ Some x) × (t x ≡ true)
any_at t [] h = absurd (false≢true h)
any_at t (x ∷ xs) h =
    elim (or_cases (t x) (list_any t xs) h) [
      | inl p ↦ (0, x, refl, p)
      | inr q ↦ (let r = any_at t xs q in (suc r.0, r.1, r.2, r.3))
    ]

none_true : (b : Bool) → (b ≡ true → ⊥) → false ≡ b
none_true true f = absurd (f refl)
none_true false f = refl

module _ (ranges : List LineRange) (ordered : IsInOrder ranges) (code : ℕ) (number : List ℕ) where
  abbrev pub starts_by : LineRange → Bool
  starts_by r = is_le (key_cmp (start_of r) (code, number))

  abbrev pub matches : LineRange → Bool
  matches r = (r.code == code) && in_range number r

  -- a later range starts no earlier
  pub rises : (i j : ℕ) (d : LineRange) → i ≤ j → j < length ranges → is_le (key_cmp (start_of (get_or ranges i d)) (start_of (get_or ranges j d))) ≡ true
  rises i j d l h = at_or_after keys_total (start_of (get_or ranges i d)) (start_of (get_or ranges j d)) (sorted_far (λ r q. is_lt (key_cmp (start_of r) (start_of q))) (ranks_by keys_total start_of) ranges ordered.sorted i j d l h)

  pub partitioned : IsPartitionedBy starts_by ranges
  partitioned i j d l h p = le_trans keys_total (start_of (get_or ranges i d)) (start_of (get_or ranges j d)) (code, number) (rises i j d l h) p

  -- what a range that has the number says of it
  record Has (r : LineRange) : Type 0 where
    code_is : r.code ≡ code
    width : length number ≡ length r.low
    low : at_most r.low number ≡ true
    high : at_most number r.high ≡ true

  has : (r : LineRange) → matches r ≡ true → Has r
  has r h =
      let a = and_parts (r.code == code) (in_range number r) h in
      let b = and_parts (length number == length r.low) (at_most r.low number && at_most number r.high) a.1 in
      let c = and_parts (at_most r.low number) (at_most number r.high) b.1 in
      record { code_is = eqb-true r.code code a.0; width = eqb-true (length number) (length r.low) b.0; low = c.0; high = c.1 }

  tie : (a b : ℕ) (o : Ordering) → a ≡ b → ordering_then (nat_cmp a b) o ≡ o
  tie a b o e = ap (λ n. ordering_then (nat_cmp n b) o) e ∙ ap (λ p. ordering_then p o) (itself b)
    where
      itself : (n : ℕ) → nat_cmp n n ≡ Equal
      itself n = ap (λ t. cond t Less (cond (n == n) Equal Greater)) (let q : nat_lt n n ≡ false = grind (arith, nat_tests) in q) ∙ ap (λ t. cond t Equal Greater) (eq-eqb n n refl)

  -- of the code and of the width, it starts by the number where its low end is not above that
  starts_as : (r : LineRange) → r.code ≡ code → length r.low ≡ length number → starts_by r ≡ at_most r.low number
  starts_as r e w =
      ap is_le (tie r.code code (ordering_then (nat_cmp (length r.low) (length number)) (slice_cmp nat_cmp r.low number)) e
      ∙ tie (length r.low) (length number) (slice_cmp nat_cmp r.low number) w)

  has_starts : (r : LineRange) → Has r → starts_by r ≡ true
  has_starts r h = starts_as r h.code_is (sym h.width) ∙ h.low

  -- so of a range that starts by the number the low end need not be asked
  low_told : (r : LineRange) → starts_by r ≡ true → ((r.code == code) && ((length number == length r.low) && at_most number r.high)) ≡ matches r
  low_told r s = elim (r.code == code) as (λ b. (r.code == code) ≡ b → (b && ((length number == length r.low) && at_most number r.high)) ≡ (b && in_range number r)) [
    | false ↦ λ e. refl
    | true ↦ λ e. elim (length number == length r.low) as (λ b. (length number == length r.low) ≡ b → (b && at_most number r.high) ≡ (b && (at_most r.low number && at_most number r.high))) [
      | false ↦ λ f. refl
      | true ↦ λ f. ap (λ b. b && at_most number r.high) (sym s ∙ starts_as r (eqb-true r.code code e) (sym (eqb-true (length number) (length r.low) f)))
    ] refl
  ] refl

  module _ (n : ℕ) (point : IsPartitionPoint (λ y. starts_by y ≡ true) (λ y. starts_by y ≡ false) ranges n) where
    before : (j : ℕ) (q : LineRange) → slice_get ranges j ≡ Some q → Has q → j < n
    before j q at h =
        elim (nat_lt j n) as (λ b. nat_lt j n ≡ b → j < n) [
          | true ↦ λ e. grind (arith, nat_tests)
          | false ↦ λ e. let l : n ≤ j = grind (arith, nat_tests) in
              absurd (false≢true (sym (point.1 j q l (slice_get_within ranges j q at)) ∙ ap starts_by (get_or_from_slice_get ranges j q q at) ∙ has_starts q h))
        ] refl

    pub none_starts : n ≡ 0 → false ≡ list_any matches ranges
    none_starts z = none_true (list_any matches ranges) (λ t. let a = any_at matches ranges t in let l = before a.0 a.1 a.2 (has a.1 a.3) in omega arith)

    pub last_start : (m : ℕ) → n ≡ m + 1 → (r : LineRange) → slice_get ranges m ≡ Some r → ((r.code == code) && ((length number == length r.low) && at_most number r.high)) ≡ list_any matches ranges
    last_start m e r at = low_told r down ∙ same_tests (matches r) (list_any matches ranges) (any_passes_from_place matches ranges m r at) back
      where
        down : starts_by r ≡ true
        down = ap starts_by (sym (get_or_from_slice_get ranges m r r at)) ∙ point.0 m r (omega arith) (let last = slice_get_within ranges m r at in omega arith)

        back : list_any matches ranges ≡ true → matches r ≡ true
        back t =
            let a = any_at matches ranges t in
            let q = a.1 in
            let h = has q a.3 in
            let l = before a.0 q a.2 h in
            let last = slice_get_within ranges m r at in
            let up : is_le (key_cmp (start_of q) (start_of r)) ≡ true =
            (λ i. is_le (key_cmp (start_of (sym (get_or_from_slice_get ranges a.0 q q a.2) i)) (start_of (sym (get_or_from_slice_get ranges m r q at) i)))) ∙ rises a.0 m q (omega arith) last in
            let up' : is_le (key_cmp (code, q.low) (r.code, r.low)) ≡ true = ap (λ c. is_le (key_cmp (c, q.low) (r.code, r.low))) (sym h.code_is) ∙ up in
            let b = between code r.code q.low r.low number up' down (sym h.width) in
            let one = ordered.apart a.0 m q r a.2 at (h.code_is ∙ sym b.0) (sym h.width ∙ sym b.1) (le_trans nat_list_cmp_total r.low number q.high b.3 h.high) (le_trans nat_list_cmp_total q.low r.low r.high b.2 (ordered.upward m r at)) in
            let s : Some q ≡ Some r = sym a.2 ∙ ap (slice_get ranges) one ∙ at in
            let z : q ≡ r = cc in
            ap matches (sym z) ∙ a.3
