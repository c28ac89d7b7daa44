-- Ambiguous pairs of codes by their indexes.
use Rattle.std.specs.Prelude.{◌≡◌, ℕ, true, List, Some, slice_get}
use Rattle.tx_plan.specs.Plan.{Code}
use Rattle.tx_plan.specs.Ambiguous.{CodePair, is_ambiguous}

-- two codes with their indexes
abbrev pub pair_at : ℕ → ℕ → Code → Code → CodePair
pair_at i j c d = record { first = (i, c); second = (j, d) }

-- an ambiguous pair of the codes, by its indexes
pub record IsAmbiguousAt (codes : List Code) (i j : ℕ) (c d : Code) : Type 0 where
  pub first : slice_get codes i ≡ Some c
  pub second : slice_get codes j ≡ Some d
  pub begins : is_ambiguous (pair_at i j c d) ≡ true
