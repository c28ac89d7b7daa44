-- Calls and their numbers.
use Rattle.std.specs.Prelude.{◌≡◌, ℕ, List, Option, Some, None, nat_eq, slice_index_or}
use Rattle.indexmap.specs.IndexMap as index
use Rattle.indexmap.specs.IndexMap.{IndexMap}
use Rattle.tx_engine.specs.inner.KeptCalls.{Kept}

module _ {S : Type 0} where
  -- the index leads from each number to the call that has it, and each call is in the index
  pub record IsTied (slots : List (Option Kept)) (m : IndexMap ℕ ℕ S) : Type 0 where
    pub leads : (n key : ℕ) → index.get nat_eq m n ≡ Some key
        → (k : Kept) × (slice_index_or slots key None ≡ Some k) × (k.call.number ≡ n)
    pub whole : (key : ℕ) (k : Kept) → slice_index_or slots key None ≡ Some k
        → index.get nat_eq m k.call.number ≡ Some key
