-- The lines of a text, one after another, up to its end or its first fault, whichever way the text
-- ends.
use Rattle.std.specs.Prelude.{◌≡◌, ℕ, Bool, false, List, [], ◌∷◌, Option, None, Some}
use Rattle.std.specs.Io.KnownBytes.{prepend_known}
use Rattle.tx_text.specs.declared.text_fault.TextFault.{TextFault}
use Rattle.tx_text.specs.declared.text_fault.TextFault.TheVariants.{LineTooLong as too_long, BadByte as bad_byte, NoMemory as no_memory}
use Rattle.tx_text.specs.declared.frame.FrameFault.{FrameFault}
use Rattle.tx_text.specs.declared.frame.FrameFault.TheVariants.{LineTooLong, BadByte, NoMemory, Read}
use Rattle.tx_text.specs.Text.{Line, bytes_fault, begun_fault}

-- how the bytes that were read end: there are no others, or the source failed
pub data Ending : Type 0 where
  AtEnd : Ending
  Cut : Ending

-- the lines of a text, up to its end or its first fault
pub data Told : Type 0 where
  Closed : Told
  Faulty : FrameFault → Told
  Then : Line → Told → Told

-- a fault of a line's bytes, as one of its text
abbrev pub frame_fault : TextFault → FrameFault
frame_fault too_long = LineTooLong
frame_fault bad_byte = BadByte
frame_fault no_memory = NoMemory

-- a fault of a line's bytes ends the text
abbrev pub or_fault : Option TextFault → Told → Told
or_fault None t = t
or_fault (Some f) t = Faulty (frame_fault f)

-- A line that a failure cut off is faulty only where it is so whatever bytes follow.
abbrev pub told_line : Ending → Bool → Line → Told → Told
told_line Cut false l t = or_fault (begun_fault l.bytes) (Faulty Read)
told_line e finished l t = or_fault (bytes_fault l.bytes) (Then l t)

-- after the last line the text is over, or the source failed
abbrev pub told_end : Ending → Told
told_end AtEnd = Closed
told_end Cut = Faulty Read

-- the lines of a text that ends in this way, up to its first fault
unfoldable pub told : Ending → List Line → Told
told e [] = told_end e
told e (l ∷ ls) = told_line e l.finished l (told e ls)

-- a call read these bytes
abbrev pub Moves : Option (List ℕ) → Option (List ℕ) → List ℕ → Type 0
Moves old new c = old ≡ prepend_known c new
