-- What the calls of std's readers come to.
use Rattle.std.specs.Prelude.{◌≡◌, ◌⊎◌, ℕ, Bool, Result, true}
use Rattle.tx_text.specs.declared.source.ReadFault.{ReadFault}
use Rattle.tx_text.specs.Calls.{Broken, one_call_more, source_calls}

-- A reader as it is seen: how often it was called, and whether a call has failed.
pub record Reads : Type 0 where
  pub calls : ℕ
  pub failed : Bool

-- a call counts as one, whatever it was for and whatever it answered
abbrev pub counted : ℕ → Result ℕ ReadFault → Reads → Reads → Type 0
counted room answer old new = new.calls ≡ one_call_more old.calls

-- Where a text that is read from here on cannot be given to its end, the reader has failed, or was
-- called 4,294,967,295 times.
abbrev pub TellsWhy : Reads → Type 0
TellsWhy begin = (later : Reads) → Broken counted later.failed source_calls begin later
    → (later.failed ≡ true) ⊎ (later.calls ≡ source_calls)
