-- What a call that writes a text does.
use Rattle.std.specs.Prelude.{◌≡◌, ℕ, Bool, true, List, Option, Result, Ok, Err}
use Rattle.std.specs.Io.KnownBytes.{append_known}
use Rattle.tx_text.specs.declared.sink.WriteFault.{WriteFault}
use Rattle.tx_text.specs.Ends.{StopsIn}

-- By the bytes that a sink has taken and its mark, both before and after. Ok: all of the text was
-- taken. Err: the sink failed, and a front of the text was taken.
abbrev pub WroteBy : Option (List ℕ) → Option (List ℕ)
    → Bool → Bool → List ℕ → Result (Unit {0}) WriteFault → Type 0
WroteBy old new marked_old marked_new text (Ok x) = (new ≡ append_known old text)
    × (marked_new ≡ marked_old)
WroteBy old new marked_old marked_new text (Err e) = StopsIn old new text × (marked_new ≡ true)

-- What a call that writes a text does to a sink, by the bytes that the sink reports and its mark.
abbrev pub Wrote : {W : Type 0} → (taken : W → Option (List ℕ)) → (failed : W → Bool)
    → (old new : W) → List ℕ → Result (Unit {0}) WriteFault → Type 0
Wrote taken failed old new text r =
    WroteBy (taken old) (taken new) (failed old) (failed new) text r
