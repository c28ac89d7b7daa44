-- Free circuits lie in the group; what an index has beside it in a list.
use Rattle.tx_circuits.proofs.Common.{◌≡◌, ◌≢◌, ℕ, zero, suc, ◌+◌, ◌<◌, ◌≤◌, Bool, true, false, List, [], ◌∷◌, length, map, slice_index_or, Option, Some, None, refl, sym, subst, ap, ◌∙◌, arith, IfSome, unwrap_or, First, Other, length-map, End, Way, Up, Down, Slot, IsFirst, IsLast, IsLinked, with, free_at, is_free, state_of, rank_of, back}
use mathlib.Core.Bool.{beq}
use Rattle.tx_circuits.proofs.Columns.{column_at}
use Rattle.tx_circuits.proofs.Linked.{beyond, are_ranked, with_here, with_there, after_last, to_last}

within : {A : Type 0} (f : A → Bool) (xs : List A) (k : ℕ) → slice_index_or (map f xs) k false ≡ true → k < length xs
within f [] k h = absurd (cc)
within f (x ∷ xs) zero h = omega arith
within f (x ∷ xs) (suc k) h = (let later : k < length xs = within f xs k h in omega arith)

pub free_within : (end : End) (slots : List Slot) (k : ℕ) → free_at end slots k ≡ true → k < length slots
free_within end slots k h = (let a : k < length (map state_of slots) = within (is_free end) (map state_of slots) k h in rw (← length-map slots state_of) a)

pub free_below : (end : End) (slots : List Slot) → length slots ≤ 240 → (k : ℕ) → free_at end slots k ≡ true → k < 240
free_below end slots short k h = (let a : k < length slots = free_within end slots k h in omega arith)

-- a slot's own test
pub free_here : (end : End) (slots : List Slot) (i : ℕ) (blank : Slot) → i < length slots → free_at end slots i ≡ is_free end (slice_index_or slots i blank).state
free_here end slots i blank h =
    let a : i < length (map state_of slots) = rw length-map h in
    column_at (is_free end) (map state_of slots) i blank.state false a ∙ ap (is_free end) (column_at state_of slots i blank blank.state h)

-- what comes first lies in the group too
pub first_within : (free : ℕ → Bool) (rank : ℕ → ℕ) (low n : ℕ) → ((k : ℕ) → free k ≡ true → k < n) → (r : Option ℕ) → IsFirst free rank low r → IfSome r (λ k. k < n)
first_within free rank low n inside None l = tt
first_within free rank low n inside (Some j) l = inside j l.0

pub last_within : (free : ℕ → Bool) (rank : ℕ → ℕ) (high n : ℕ) → ((k : ℕ) → free k ≡ true → k < n) → (r : Option ℕ) → IsLast free rank high r → IfSome r (λ k. k < n)
last_within free rank high n inside None l = tt
last_within free rank high n inside (Some j) l = inside j l.0

-- what follows the begin of a list, or a free index
pub at : (free : ℕ → Bool) (rank : ℕ → ℕ) (next : Option ℕ → Option ℕ) → IsLinked free rank next → (q : Option ℕ) → IfSome q (λ k. free k ≡ true) → IsFirst free rank (beyond rank q) (next q)
at free rank next list None on = list.begins
at free rank next list (Some k) on = list.goes_on k on

last_free : (free : ℕ → Bool) (rank : ℕ → ℕ) (high : ℕ) (q : Option ℕ) → IsLast free rank high q → IfSome q (λ k. free k ≡ true)
last_free free rank high None l = tt
last_free free rank high (Some p) l = l.0

-- the neighbour after an index is what follows the one before it
module _ (free : ℕ → Bool) (inside : (k : ℕ) → free k ≡ true → k < 240) (i : ℕ) (i_in : i < 240) (taken : free i ≡ false) where
  after : (w : Way) (next : Option ℕ → Option ℕ) → IsLinked free (rank_of w) next → (q : Option ℕ) → IsLast free (rank_of w) (rank_of w i) q → IsFirst free (rank_of w) (rank_of w i + 1) (next q)
  after w next list q last =
      after_last free (with free i true) (rank_of w) (are_ranked w free inside) i i_in (with_here free i true) taken (λ k ne. with_there free i k true ne) q (next q) last
      (at free (rank_of w) next list q (last_free free (rank_of w) (rank_of w i) q last))

  pub beside : (w : Way) (next : Option ℕ → Option ℕ) → IsLinked free (rank_of w) next → (q r : Option ℕ) → r ≡ next q → IsLast free (rank_of w) (rank_of w i) q
      → IsLast free (rank_of (back w)) (rank_of (back w) i) r
  beside Up next list q r e last = subst (IsLast free (rank_of Down) (rank_of Down i)) (sym e) (to_last free inside i i_in Down (next q) (after Up next list q last))
  beside Down next list q r e last = subst (IsLast free (rank_of Up) (rank_of Up i)) (sym e) (to_last free inside i i_in Up (next q) (after Down next list q last))

-- an index that is taken is no neighbour
pub not_itself : (free : ℕ → Bool) (rank : ℕ → ℕ) (high i : ℕ) → free i ≡ false → (r : Option ℕ) → IsLast free rank high r → Some i ≢ r
not_itself free rank high i taken None l e = absurd cc
not_itself free rank high i taken (Some j) l e = (let same : i ≡ j = ap (λ o. unwrap_or o 0) e in let bad : true ≡ false = sym l.0 ∙ subst (λ k. free k ≡ false) same taken in absurd cc)

-- what holds of both ways, and of both ends
pub each_way : (P : Way → Type 0) → P Up → P Down → (w : Way) → P w
each_way P u d Up = u
each_way P u d Down = d

pub each_end : (P : End → Type 0) → P First → P Other → (e : End) → P e
each_end P f o First = f
each_end P f o Other = o

pub same_bool : (a b : Bool) → beq a b ≡ true → a ≡ b
same_bool true true e = refl
same_bool true false e = absurd (cc)
same_bool false true e = absurd (cc)
same_bool false false e = refl

pub other_bool : (a b : Bool) → beq a b ≡ false → b ≡ true → a ≡ false
other_bool true true ne e = absurd (cc)
other_bool true false ne e = absurd (cc)
other_bool false b ne e = refl

pub other_bool_false : (a b : Bool) → beq a b ≡ false → b ≡ false → a ≡ true
other_bool_false true b ne e = refl
other_bool_false false true ne e = absurd (cc)
other_bool_false false false ne e = absurd (cc)
