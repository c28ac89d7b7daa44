-- Texts in memory as sources.
use Rattle.std.specs.Prelude.{◌≡◌, ℕ, ◌^◌, ◌<◌, min, List, length, drop, Result, Ok, false}
use Rattle.tx_text.specs.declared.source.ReadFault.{ReadFault}
use Rattle.tx_text.specs.Calls.{slice_calls, Broken}

-- a call for so many bytes gives them, or all that are left
abbrev pub slice_called : ℕ → Result ℕ ReadFault → List ℕ → List ℕ → Type 0
slice_called n r a b = (r ≡ Ok (min n (length a))) × (b ≡ drop n a)

-- No text in memory is so long that its reader meets the bound on calls, and no call for its bytes
-- fails.
abbrev pub SlicesAreReadWhole : Type 0
SlicesAreReadWhole = (text rest : List ℕ) → length text < 2 ^ 63
    → Broken slice_called false slice_calls text rest → ⊥
