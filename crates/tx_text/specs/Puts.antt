-- What a call that puts a text to a sink does. It may go on after the sink failed.
use Rattle.std.specs.Prelude.{◌≡◌, ℕ, Bool, true, false, List, Option}
use Rattle.std.specs.Io.KnownBytes.{append_known}
use Rattle.tx_text.specs.Ends.{StopsIn}

-- By the bytes that a sink has taken and its mark, both before and after. All of the text was
-- taken, or the sink failed within it, or it had failed before and took nothing.
abbrev pub PutsBy : Option (List ℕ) → Option (List ℕ) → Bool → Bool → List ℕ → Type 0
PutsBy old new false false text = new ≡ append_known old text
PutsBy old new false true text = StopsIn old new text
PutsBy old new true marked text = (marked ≡ true) × (new ≡ old)

-- What a call that puts a text does to a sink, by the bytes that the sink reports and its mark.
pub record Puts {W : Type 0} (taken : W → Option (List ℕ)) (failed : W → Bool) (old new : W)
    (text : List ℕ) : Type 0 where
  pub by : PutsBy (taken old) (taken new) (failed old) (failed new) text
