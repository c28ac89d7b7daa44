-- Calls of a group that fails, which end in order of their numbers.
use Rattle.tx_engine.proofs.Common.{◌≡◌, ℕ, zero, suc, ◌+◌, ◌<◌, ◌≤◌, true, List, [], ◌∷◌, inl, inr, length, drop, Option, Some, None, refl, sym, ap, subst, ◌∙◌, arith, get_or, eqb-true, slice_index_or, Plan, Among, Call, call_of, is_numbered, State, uses_group, end_call, find_mem, IsLosing}
use Rattle.std.specs.Ordering.{nat_cmp}
use Rattle.std.specs.List.{Contains}
use Rattle.std.specs.List.Sorted.{IsSorted, IsNonDecreasingBy, IsPermutation}
use Rattle.std.proofs.lemmas.List.Sorted.{IsNonDecreasingBy-from_sort, Contains-permutation, IsPermutation-sym}
use Rattle.tx_machine.specs.declared.cause.Cause.TheVariants.{Lost as ByLoss}
use Rattle.tx_engine.proofs.Losing.{losing_goes_on}
use Rattle.tx_engine.proofs.Users.{AreLeft, first_user, left_after, left_without}

-- the numbers from an index on: the one there, and those after it
pub drop_first : (xs : List ℕ) (i : ℕ) → i < length xs → drop i xs ≡ get_or xs i 0 ∷ drop (i + 1) xs
drop_first [] i h = absurd (omega arith)
drop_first (y ∷ ys) zero h = refl
drop_first (y ∷ ys) (suc i) h = drop_first ys i (omega arith) ∙ ap (λ k. get_or ys i 0 ∷ drop k (y ∷ ys)) (let q : suc (i + 1) ≡ suc i + 1 = omega arith in q)

pub mem_there : (xs : List ℕ) (i : ℕ) → i < length xs → Among (get_or xs i 0) xs
mem_there [] i h = absurd (omega arith)
mem_there (y ∷ ys) zero h = inl refl
mem_there (y ∷ ys) (suc i) h = inr (mem_there ys i (omega arith))

-- where a number after an index stands
placed : (xs : List ℕ) (k m : ℕ) → Among m (drop k xs) → (j : ℕ) × (k ≤ j) × (j < length xs) × (slice_index_or xs j 0 ≡ m)
placed [] zero m h = elim h [ ]
placed [] (suc k) m h = elim h [ ]
placed (x ∷ xs) zero m (inl e) = (0, omega arith, omega arith, e)
placed (x ∷ xs) zero m (inr h) = let r = placed xs zero m h in let within = r.2 in (suc r.0, omega arith, omega arith, r.3)
placed (x ∷ xs) (suc k) m h = let r = placed xs k m h in let low = r.1 in let within = r.2 in (suc r.0, omega arith, omega arith, r.3)

index_is : (xs : List ℕ) (i : ℕ) → i < length xs → slice_index_or xs i 0 ≡ get_or xs i 0
index_is [] i h = absurd (omega arith)
index_is (y ∷ ys) zero h = refl
index_is (y ∷ ys) (suc i) h = index_is ys i (omega arith)

-- of sorted numbers none after an index is below the one there
pub least_there : (xs : List ℕ) → IsSorted nat_cmp xs → (i : ℕ) → i < length xs → (m : ℕ) → Among m (drop (i + 1) xs) → get_or xs i 0 ≤ m
least_there xs sorted i h m k =
    let r = placed xs (i + 1) m k in
    let low = r.1 in
    let up : IsNonDecreasingBy (λ (z : ℕ). z) xs = IsNonDecreasingBy-from_sort (λ (z : ℕ). z) xs sorted in
    let rises = up i r.0 0 (omega arith) r.2 in
    let here = index_is xs i h in
    let there = r.3 in
    omega arith

-- MEMBERS OF A SORTED LIST
mem_contains : (xs : List ℕ) (x : ℕ) → Among x xs → Contains xs x
mem_contains [] x m = elim m [ ]
mem_contains (y ∷ ys) x (inl e) = (0, omega arith, e)
mem_contains (y ∷ ys) x (inr m) = let r = mem_contains ys x m in let within = r.1 in (suc r.0, omega arith, r.2)

contains_mem : (xs : List ℕ) (x k : ℕ) → k < length xs → slice_index_or xs k x ≡ x → Among x xs
contains_mem [] x k h e = absurd (omega arith)
contains_mem (y ∷ ys) x zero h e = inl e
contains_mem (y ∷ ys) x (suc k) h e = inr (contains_mem ys x k (omega arith) e)

-- a list and one that it was sorted to have the same members
pub permuted : (xs ys : List ℕ) → IsPermutation xs ys → (n : ℕ) → Among n xs → Among n ys
permuted xs ys p n m = let r = Contains-permutation xs ys n p (mem_contains xs n m) in contains_mem ys n r.0 r.1 r.2

pub permuted_back : (xs ys : List ℕ) → IsPermutation xs ys → (n : ℕ) → Among n ys → Among n xs
permuted_back xs ys p = permuted ys xs (IsPermutation-sym xs ys p)

-- ONE NUMBER AFTER ANOTHER
module _ (p : Plan) (g : ℕ) (old now new : State) (lost r x : ℕ) (ns : List ℕ) (losing : IsLosing p g old now lost) (left : AreLeft g old.calls now.calls (x ∷ ns))
    (one : (c d : Call) → Among c old.calls → Among d old.calls → c.number ≡ d.number → c ≡ d) (user : (c : Call) × Among c old.calls × (uses_group g c ≡ true) × (c.number ≡ x))
    (least : (m : ℕ) → Among m ns → x ≤ m)
    (some : (c : Call) → call_of x now.calls ≡ Some c → (r ≡ 1) × (new ≡ end_call p ByLoss x now)) (none : call_of x now.calls ≡ None → (r ≡ 0) × (new ≡ now)) where
  -- its call ended, or no call has it any more
  pub goes_on : IsLosing p g old new (lost + r) × AreLeft g old.calls new.calls ns
  goes_on = by (call_of x now.calls) refl
    where
      by : (o : Option Call) → call_of x now.calls ≡ o → IsLosing p g old new (lost + r) × AreLeft g old.calls new.calls ns
      by None e =
          let f = none e in
          let same : lost ≡ lost + r = (let q = f.0 in omega arith) in (
            subst (IsLosing p g old new) same (subst (λ (s : State). IsLosing p g old s lost) (sym f.1) losing),
            subst (λ (s : State). AreLeft g old.calls s.calls ns) (sym f.1) (left_without g old.calls now.calls x ns left e),
          )
      by (Some c) e =
          let f = some c e in
          let first = first_user g old.calls now.calls x ns left losing.holds.order one user.0 user.1 user.2 user.3 least c e in
          let named : c.number ≡ x = eqb-true c.number x (find_mem (is_numbered x) now.calls c e).1 in (
            subst (λ k. IsLosing p g old new (lost + k)) (sym f.0) (subst (λ (s : State). IsLosing p g old s (lost + 1)) (ap (λ k. end_call p ByLoss k now) named ∙ sym f.1) (losing_goes_on p g old now lost c losing first)),
            left_after g old.calls now.calls x ns left new.calls (ap (λ (s : State). s.calls) f.1),
          )
