-- Rules that hang on the ranks of the network's exchanges alone.
use Rattle.std.specs.Prelude.{◌≡◌, ℕ, Bool, map}
use Rattle.tx_mend.specs.LeastRanks.{indexes, RanksOfCode}

-- which of so many exchanges follow is the same for ranks that they share
abbrev pub IsLocal : ℕ → (RanksOfCode → ℕ → Bool) → Type 0
IsLocal size follows = (a b : RanksOfCode) → map a (indexes size) ≡ map b (indexes size)
    → (x : ℕ) → follows a x ≡ follows b x
