-- What printing does to the output.
use Rattle.std.specs.Prelude.{ℕ, Bool, List, Option, Result}
use Rattle.tx_text.specs.declared.sink.WriteFault.{WriteFault}
use Rattle.tx_text.specs.Wrote.{WroteBy}

-- By the bytes that a sink has taken and its mark, both before and after.
abbrev pub Printing : Type 1
Printing = (old new : Option (List ℕ)) → (marked_old marked_new : Bool)
    → Result (Unit {0}) WriteFault → Type 0

-- this text was written, or a front of it before the sink failed
abbrev pub Writes : List ℕ → Printing
Writes text old new marked_old marked_new result = WroteBy old new marked_old marked_new text result
