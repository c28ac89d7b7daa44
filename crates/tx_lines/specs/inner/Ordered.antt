-- Ranges in order of code, width and low end.
use Rattle.std.specs.Prelude.{◌≡◌, ℕ, ◌<◌, ◌≤◌, true, false, List, Some, length, slice_get, get_or}
use Rattle.std.specs.Ordering.{ordering_then, is_le, is_lt, nat_cmp}
use Rattle.std.specs.declared.cmp.Ordering.{Ordering}
use Rattle.std.specs.Cmp.Lexicographic.{slice_cmp}
use Rattle.std.specs.List.Sorted.{IsSortedBy, IsPartitionPoint}
use Rattle.tx_plan.specs.Lines.{at_most}
use Rattle.tx_plan.specs.declared.range.LineRange.{LineRange}

-- a code and a national number
abbrev pub Key : Type 0
Key = ℕ × List ℕ

-- by code, then by width, then by figures
abbrev pub key_cmp : Key → Key → Ordering
key_cmp x y = ordering_then (nat_cmp x.0 y.0)
    (ordering_then (nat_cmp (length x.1) (length y.1)) (slice_cmp nat_cmp x.1 y.1))

-- where a range begins
abbrev pub start_of : LineRange → Key
start_of r = (r.code, r.low)

-- In order of their starts; each from its low end up to its high one; two of one code and width
-- that share a number are one.
pub record IsInOrder (ranges : List LineRange) : Type 0 where
  pub sorted : IsSortedBy (λ r q. is_lt (key_cmp (start_of r) (start_of q))) ranges
  pub upward : (i : ℕ) (r : LineRange) → slice_get ranges i ≡ Some r → at_most r.low r.high ≡ true
  pub apart : (i j : ℕ) (r q : LineRange) → slice_get ranges i ≡ Some r
      → slice_get ranges j ≡ Some q → r.code ≡ q.code → length r.low ≡ length q.low
      → at_most q.low r.high ≡ true → at_most r.low q.high ≡ true → i ≡ j

-- so many ranges start at the number of the code or before it, and no other does
pub record IsStart (ranges : List LineRange) (code : ℕ) (number : List ℕ) (after : ℕ) : Type 0 where
  pub within : after ≤ length ranges
  pub point : IsPartitionPoint (λ r. is_le (key_cmp (start_of r) (code, number)) ≡ true)
      (λ r. is_le (key_cmp (start_of r) (code, number)) ≡ false) ranges after

-- so many of the first ranges are of codes before this one, and no other is
pub record IsFirst (ranges : List LineRange) (code first : ℕ) : Type 0 where
  pub within : first ≤ length ranges
  pub point : IsPartitionPoint (λ r. r.code < code) (λ r. code ≤ r.code) ranges first

-- for each code how many ranges are of codes before it
abbrev pub AreFirsts : List LineRange → List ℕ → Type 0
AreFirsts ranges firsts = (code : ℕ) → code < length firsts
    → IsFirst ranges code (get_or firsts code 0)
