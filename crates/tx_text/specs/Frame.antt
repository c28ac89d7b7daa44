-- The frame of a text: its header, its lines, its END, whichever way it ends.
use Rattle.std.specs.Prelude.{◌≡◌, ◌⊎◌, ℕ, ◌+◌, Bool, true, false, ◌&&◌, nat_le, List, [], ◌∷◌, ◌++◌, Option, None, Some, codes, if◌then◌else◌}
use Rattle.std.specs.Io.KnownBytes.{IsAtEnd}
use Rattle.std.specs.Str.{bytes_eq}
use Rattle.tx_text.specs.declared.frame.FrameFault.{FrameFault}
use Rattle.tx_text.specs.declared.frame.FrameFault.TheVariants.{Read, NoHeader, NoEnd, AfterEnd}
use Rattle.tx_text.specs.declared.frame.FramePart.{FramePart}
use Rattle.tx_text.specs.declared.frame.FramePart.TheVariants.{Start, Body, Ended}
use Rattle.tx_text.specs.declared.frame.LineForm.{LineForm}
use Rattle.tx_text.specs.declared.frame.LineForm.TheVariants.{Blank, Header, Plain, End, Bad}
use Rattle.tx_text.specs.Words.{words_of}
use Rattle.tx_text.specs.Told.{Ending, AtEnd, Cut, Told, Closed, Faulty, Then, Moves}

-- what the frame leaves to the reader: which header it is, and the lines with their numbers and
-- words, up to the end or the first fault of the frame
pub data Framed : Type 0 where
  Done : Framed
  Stop : ℕ → FrameFault → Framed
  Headed : ℕ → Framed → Framed
  Has : ℕ → List (List ℕ) → Framed → Framed

-- the one word END
abbrev pub is_end : List (List ℕ) → Bool
is_end [] = false
is_end (w ∷ []) = bytes_eq w (codes "END")
is_end (w ∷ v ∷ ws) = false

-- 1, or 2 where that is known
abbrev pub version_of : ℕ → List ℕ → Option ℕ
version_of most v = if bytes_eq v (codes "1")
    then Some 1 else if nat_le 2 most && bytes_eq v (codes "2") then Some 2 else None

-- the version that a header with this key names
abbrev pub header_of : List ℕ → ℕ → List (List ℕ) → Option ℕ
header_of key most [] = None
header_of key most (w ∷ []) = None
header_of key most (w ∷ v ∷ []) = if bytes_eq w key then version_of most v else None
header_of key most (w ∷ v ∷ x ∷ ws) = None

-- The first line with words is a header of this version, or the text has none.
abbrev pub headed : Option ℕ → LineForm
headed None = Bad NoHeader
headed (Some v) = Header v

-- what a finished line is in the frame, by the phase that it is read in
abbrev pub looked_by : Option ℕ → Bool → FramePart → LineForm
looked_by header end Start = headed header
looked_by header end Body = if end then End else Plain
looked_by header end Ended = Bad AfterEnd

-- What a finished line with these words is in the frame. One without words is passed over.
abbrev pub looked : (List (List ℕ) → Option ℕ) → FramePart → List (List ℕ) → LineForm
looked header p [] = Blank
looked header p (w ∷ ws) = looked_by (header (w ∷ ws)) (is_end (w ∷ ws)) p

-- what is wrong where the text ends in a phase
abbrev pub closing : FramePart → Option FrameFault
closing Start = Some NoHeader
closing Body = Some NoEnd
closing Ended = None

-- what is wrong where an unfinished line with words is last
abbrev pub last_by : Bool → FramePart → Option FrameFault
last_by end Start = if end then Some NoHeader else Some NoEnd
last_by end Body = if end then None else Some NoEnd
last_by end Ended = Some AfterEnd

-- What is wrong where an unfinished line with these words is last.
abbrev pub last_fault : FramePart → List (List ℕ) → Option FrameFault
last_fault p [] = closing p
last_fault p (w ∷ ws) = last_by (is_end (w ∷ ws)) p

-- The text is over, and whole or faulty at this line.
abbrev pub ended_by : ℕ → Option FrameFault → Framed
ended_by n None = Done
ended_by n (Some k) = Stop n k

-- a finished line, where k goes on in a phase
abbrev pub as_said : LineForm → FramePart → ℕ → List (List ℕ) → (FramePart → Framed) → Framed
as_said Blank p n ws k = k p
as_said (Header v) p n ws k = Headed v (k Body)
as_said Plain p n ws k = Has n ws (k p)
as_said End p n ws k = k Ended
as_said (Bad x) p n ws k = Stop n x

-- A finished line is judged by where it stands in the frame. An unfinished one is the last.
abbrev pub framed_line : (List (List ℕ) → Option ℕ)
    → FramePart → Bool → ℕ → List (List ℕ) → (FramePart → Framed) → Framed
framed_line header p true n ws k = as_said (looked header p ws) p n ws k
framed_line header p false n ws k = ended_by n (last_fault p ws)

-- n is the number of finished lines plus 1
unfoldable pub framed : (List (List ℕ) → Option ℕ) → FramePart → ℕ → Told → Framed
framed header p n Closed = ended_by n (closing p)
framed header p n (Faulty f) = Stop n f
framed header p n (Then l t) = framed_line header p l.finished l.number
    (words_of l.bytes) (λ q. framed header q (l.number + 1) t)

-- Bytes were read, and F goes on as G, whatever follows.
pub record ReadsOn {X : Type 0} (old new : Option (List ℕ))
    (F G : Ending → List ℕ → X) : Type 0 where
  pub read : List ℕ
  pub moves : Moves old new read
  pub gives : (e : Ending) (more : List ℕ) → F e (read ++ more) ≡ G e more

-- Bytes were read, and F is x there, since the bytes end so.
pub record EndsAs {X : Type 0} (old new : Option (List ℕ))
    (F : Ending → List ℕ → X) (e : Ending) (x : X) : Type 0 where
  pub read : List ℕ
  pub moves : Moves old new read
  pub gives : F e read ≡ x

-- x holds whatever follows, or the bytes are at their end and it is x then
abbrev pub Stands : {X : Type 0} → (old new : Option (List ℕ))
    → (Ending → List ℕ → X) → X → Type 0
Stands old new F x = ReadsOn old new F (λ _ _. x) ⊎ (EndsAs old new F AtEnd x × IsAtEnd new)

-- the fault is that the source failed, or met the bound on calls
abbrev pub is_read : FrameFault → Bool
is_read Read = true
is_read k = false

-- what a fault says: a failure is one by the bytes that were read
abbrev pub Stopped : {X : Type 0} → (old new : Option (List ℕ))
    → (Ending → List ℕ → X) → Type 0 → Bool → X → Type 0
Stopped old new F broken true x = EndsAs old new F Cut x × broken
Stopped old new F broken false x = Stands old new F x
