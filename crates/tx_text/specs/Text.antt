-- The lines of a text.
use Rattle.std.specs.Prelude.{ℕ, ◌+◌, ◌-◌, ◌==◌, Bool, true, false, ◌&&◌, ◌||◌, nat_le, nat_lt, List, [], ◌∷◌, Option, None, Some, Result, Ok, Err, length, take, slice_index, if◌then◌else◌}
use Rattle.std.specs.List.{slice_split, list_all}
use Rattle.tx_text.specs.declared.text_fault.TextFault.{TextFault}
use Rattle.tx_text.specs.declared.text_fault.TextFault.TheVariants.{LineTooLong, BadByte}

-- LF ends a line
abbrev pub is_lf : ℕ → Bool
is_lf b = b == 10

-- a CR at the end is dropped
unfoldable pub without_cr : List ℕ → List ℕ
without_cr line = if slice_index line (length line - 1) == 13
    then take (length line - 1) line else line

-- a line: its number, where it starts, its bytes without LF and dropped CR, and whether an LF ended
-- it
pub record Line : Type 0 where
  pub number : ℕ
  pub start : ℕ
  pub bytes : List ℕ
  pub finished : Bool

-- Each part but the last was ended by an LF. The last is a line only where it has bytes.
unfoldable pub lines_of_parts : ℕ → ℕ → List (List ℕ) → List Line
lines_of_parts number start [] = []
lines_of_parts number start ([] ∷ []) = []
lines_of_parts number start ((b ∷ bs) ∷ []) =
    record { number = number; start = start; bytes = b ∷ bs; finished = false } ∷ []
lines_of_parts number start (part ∷ next ∷ parts) =
    record {
      number = number;
      start = start;
      bytes = without_cr part;
      finished = true;
    } ∷ lines_of_parts (number + 1) (start + length part + 1) (next ∷ parts)

-- the lines of a text that begins with a line of this number, at this index
unfoldable pub lines_from : ℕ → ℕ → List ℕ → List Line
lines_from number start text = lines_of_parts number start (slice_split is_lf text)

-- the lines of a text, cut at each LF
abbrev pub lines_of : List ℕ → List Line
lines_of text = lines_from 1 0 text

-- a tab, or 0x20 to 0x7E
abbrev pub is_text_byte : ℕ → Bool
is_text_byte b = b == 9 || (nat_le 32 b && nat_le b 126)

-- what is wrong with the bytes of a line
unfoldable pub bytes_fault : List ℕ → Option TextFault
bytes_fault bytes = if nat_lt 512 (length bytes)
    then Some LineTooLong else (if list_all is_text_byte bytes then None else Some BadByte)

-- what is wrong with the bytes of a line that has begun, whatever bytes follow
unfoldable pub begun_fault : List ℕ → Option TextFault
begun_fault bytes = if nat_lt 512 (length (without_cr bytes)) then Some LineTooLong else None

-- the lines of a text up to the first that is faulty, and that fault
abbrev pub checked_line : Option TextFault → Line
    → List (Result Line TextFault) → List (Result Line TextFault)
checked_line None l rest = Ok l ∷ rest
checked_line (Some x) l rest = Err x ∷ []

-- The lines up to the first fault, which ends them.
unfoldable pub checked : List Line → List (Result Line TextFault)
checked [] = []
checked (l ∷ ls) = checked_line (bytes_fault l.bytes) l (checked ls)
