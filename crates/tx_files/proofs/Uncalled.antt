-- A source that is not called.
use Rattle.std.proofs.Common.{ℕ, Result}
use Rattle.tx_text.specs.declared.source.ReadFault.{ReadFault}
use Rattle.tx_text.specs.Calls.{CallsAtMost, source_calls}
use Rattle.tx_text.proofs.CallCounts.{went_none, calls_so_far}

-- no call was made of a source
pub uncalled : {S : Type 0} (called : ℕ → Result ℕ ReadFault → S → S → Type 0) (s : S) → CallsAtMost called source_calls s s
uncalled called s = calls_so_far called source_calls source_calls s s (went_none called source_calls s)
