-- The calls of a source's `read`, by how many are left of those that were allowed.
use Rattle.std.specs.Prelude.{◌≡◌, ℕ, ◌+◌, Result}
use Rattle.tx_text.specs.declared.source.ReadFault.{ReadFault}
use Rattle.tx_text.specs.Calls.{Gave}

module _ {S : Type 0} (called : ℕ → Result ℕ ReadFault → S → S → Type 0) where
  -- Of the calls that were allowed some are left, and those that were made gave bytes.
  abbrev pub Went : ℕ → ℕ → S → S → Type 0
  Went allowed left a c = (n : ℕ) × (allowed ≡ left + n) × Gave called n a c

  -- One call for 4,096 bytes leads from the first value to the second.
  abbrev pub Calls : S → S → Type 0
  Calls a b = (r : Result ℕ ReadFault) × called 4096 r a b
