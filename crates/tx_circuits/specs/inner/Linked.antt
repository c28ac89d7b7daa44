-- Lists of free indexes, linked in an order: `free` says which they are, `rank` in which order, and
-- `next` what follows an index, or begins the list.
use Rattle.std.specs.Prelude.{◌≡◌, ℕ, ◌+◌, ◌<◌, ◌≤◌, ◌==◌, Bool, true, cond, List, [], ◌∷◌, Option, Some, None}

-- the links followed from an index give exactly this list
abbrev pub Follows : (Option ℕ → Option ℕ) → Option ℕ → List ℕ → Type 0
Follows next from [] = next from ≡ None
Follows next from (x ∷ xs) = (next from ≡ Some x) × Follows next (Some x) xs

-- the function with another value at one index
abbrev pub with : {A : Type 0} → (ℕ → A) → ℕ → A → ℕ → A
with f index value k = cond (k == index) value (f k)

module _ (free : ℕ → Bool) (rank : ℕ → ℕ) where
  -- the first free index whose rank is not below `low`
  abbrev pub IsFirst : ℕ → Option ℕ → Type 0
  IsFirst low None = (k : ℕ) → free k ≡ true → rank k < low
  IsFirst low (Some j) = (free j ≡ true) × (low ≤ rank j)
      × ((k : ℕ) → free k ≡ true → low ≤ rank k → rank j ≤ rank k)

  -- the last free index whose rank is below `high`
  abbrev pub IsLast : ℕ → Option ℕ → Type 0
  IsLast high None = (k : ℕ) → free k ≡ true → high ≤ rank k
  IsLast high (Some p) = (free p ≡ true) × (rank p < high)
      × ((k : ℕ) → free k ≡ true → rank k < high → rank k ≤ rank p)

  -- the first free index begins the list, and each free index is followed by the next
  pub record IsLinked (next : Option ℕ → Option ℕ) : Type 0 where
    pub begins : IsFirst 0 (next None)
    pub goes_on : (k : ℕ) → free k ≡ true → IsFirst (rank k + 1) (next (Some k))
