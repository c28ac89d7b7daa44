-- What a text says, line by line, and what its reader answers.
use Rattle.std.specs.Prelude.{◌≡◌, ℕ, ◌==◌, Bool, true, false, ◌||◌, List, Option, Result, Ok, Err}
use Rattle.std.specs.Result.{is_ok}
use Rattle.std.specs.Io.KnownBytes.{IsAtEnd}
use Rattle.tx_text.specs.declared.frame.FrameFault.{FrameFault}
use Rattle.tx_text.specs.declared.frame.FrameFault.TheVariants.{NoMemory}
use Rattle.tx_text.specs.declared.frame.FramePart.TheVariants.{Start}
use Rattle.tx_text.specs.declared.frame.FaultKind.{FaultKind}
use Rattle.tx_text.specs.declared.frame.FaultAt.{FaultAt}
use Rattle.tx_text.specs.declared.frame.FaultKind.TheVariants.{Frame, Word}
use Rattle.tx_text.specs.Text.{lines_of}
use Rattle.tx_text.specs.Ends.{Input}
use Rattle.tx_text.specs.Told.{Ending, AtEnd, told}
use Rattle.tx_text.specs.Frame.{Framed, Done, Stop, Headed, Has, header_of, framed, ReadsOn, EndsAs, Stands, Stopped, is_read}

module _ {S W : Type 0} (declare : ℕ → S → List (List ℕ) → Result S W) where
  -- A line declared what leads on, or is faulty.
  abbrev pub step_on : ℕ → Result S W → (S → Result S (ℕ × FaultKind W))
      → Result S (ℕ × FaultKind W)
  step_on n (Ok s) k = k s
  step_on n (Err x) k = Err (n, Word x)

  -- what a text says from a state on, under a header of this version: each line declares what it
  -- does after those before it
  unfoldable pub said : ℕ → S → Framed → Result S (ℕ × FaultKind W)
  said v s Done = Ok s
  said v s (Stop n x) = Err (n, Frame x)
  said v s (Headed w t) = said w s t
  said v s (Has n ws t) = step_on n (declare v s ws) (λ r. said v r t)

  -- what holds after a line, if that declares something
  abbrev pub goes_on : Result S W → (S → Bool) → Bool
  goes_on (Ok s) k = k s
  goes_on (Err x) k = false

  -- line n declares something, and so does each line before it
  unfoldable pub declares_at : ℕ → ℕ → S → Framed → Bool
  declares_at n v s Done = false
  declares_at n v s (Stop m x) = false
  declares_at n v s (Headed w t) = declares_at n w s t
  declares_at n v s (Has m ws t) = goes_on (declare v s ws) (λ r. (m == n) || declares_at n v r t)

-- what declaring did: memory can run out only for a line that declares something
abbrev pub DeclaredBy : {S W : Type 0} → Result S W → Bool → W → Type 0
DeclaredBy r true x = is_ok r ≡ true
DeclaredBy r false x = r ≡ Err x

-- Declaring a line did what it declares, or answered its fault, or memory ran out.
abbrev pub Declared : {S W U : Type 0} → (W → Bool) → Result S W → S → Result U W → Type 0
Declared memory r new (Ok x) = r ≡ Ok new
Declared memory r new (Err x) = DeclaredBy r (memory x) x

-- In what follows `wanted n` is what is so where memory ran out at line n, and `untouched` says
-- that nothing was read.

-- a fault of a line's words is the one that the text has, unless memory ran out
abbrev pub RefusedBy : {S W : Type 0} → Option (List ℕ) → Option (List ℕ)
    → (Ending → List ℕ → Result S (ℕ × FaultKind W)) → (ℕ → Type 0) → Bool → ℕ → W → Type 0
RefusedBy old new F wanted true n x = wanted n
RefusedBy old new F wanted false n x = Stands old new F (Err (n, Word x))

-- no memory for the reader itself
abbrev pub is_no_room : FrameFault → Bool
is_no_room NoMemory = true
is_no_room k = false

-- A fault of the frame is the one that the text has, unless the reader had no memory: then it is
-- answered at line 1, before anything is read.
abbrev pub StoppedBy : {S W : Type 0} → Option (List ℕ) → Option (List ℕ) → (Ending → List ℕ
    → Result S (ℕ × FaultKind W)) → (broken untouched : Type 0) → Bool → ℕ → FrameFault → Type 0
StoppedBy old new F broken untouched true n k = (n ≡ 1) × untouched
StoppedBy old new F broken untouched false n k =
    Stopped old new F broken (is_read k) (Err (n, Frame k))

-- A fault is the one that the text has, unless memory ran out.
abbrev pub Refused : {S W : Type 0} → (W → Bool)
    → Option (List ℕ) → Option (List ℕ) → (Ending → List ℕ → Result S (ℕ × FaultKind W))
    → (broken untouched : Type 0) → (ℕ → Type 0) → ℕ → FaultKind W → Type 0
Refused memory old new F broken untouched wanted n (Frame k) =
    StoppedBy old new F broken untouched (is_no_room k) n k
Refused memory old new F broken untouched wanted n (Word x) =
    RefusedBy old new F wanted (memory x) n x

-- An Ok is what the whole text says, at the source's end; a fault is the one that the text has,
-- unless memory ran out.
abbrev pub Answered : {S W : Type 0} → (W → Bool)
    → Option (List ℕ) → Option (List ℕ) → (Ending → List ℕ → Result S (ℕ × FaultKind W))
    → (broken untouched : Type 0) → (ℕ → Type 0) → Result S (ℕ × FaultKind W) → Type 0
Answered memory old new F broken untouched wanted (Ok s) = EndsAs old new F AtEnd (Ok s)
    × IsAtEnd new
Answered memory old new F broken untouched wanted (Err x) =
    Refused memory old new F broken untouched wanted x.0 x.1

-- A fault is the one that the text has, unless memory ran out.
abbrev pub FaultsBy : {S W : Type 0} → Result S (ℕ × FaultKind W)
    → Type 0 → Bool → ℕ → FaultKind W → Type 0
FaultsBy x wanting true n k = wanting
FaultsBy x wanting false n k = x ≡ Err (n, k)

-- The same of a fault of the frame, and of one of the words of a line.
abbrev pub FaultsAs : {S W : Type 0} → (W → Bool)
    → Result S (ℕ × FaultKind W) → (ℕ → Type 0) → ℕ → FaultKind W → Type 0
FaultsAs memory x wanted n (Frame k) = FaultsBy x (n ≡ 1) (is_no_room k) n (Frame k)
FaultsAs memory x wanted n (Word w) = FaultsBy x (wanted n) (memory w) n (Word w)

-- A reader answers what the whole text says, unless memory ran out.
abbrev pub AnswersAs : {S W : Type 0} → (W → Bool)
    → Result S (ℕ × FaultKind W) → (ℕ → Type 0) → Result S (ℕ × FaultKind W) → Type 0
AnswersAs memory x wanted (Ok s) = x ≡ Ok s
AnswersAs memory x wanted (Err f) = FaultsAs memory x wanted f.0 f.1

-- an answer, by the line and the kind of its fault
abbrev pub told_fault : {S W : Type 0} → Result S (FaultAt W) → Result S (ℕ × FaultKind W)
told_fault (Ok s) = Ok s
told_fault (Err x) = Err (x.line, x.kind)

-- the lines of a text within its frame, whose header is the key and a version of at most so much,
-- whichever way the text ends
abbrev pub lines_within : (key : List ℕ) → (most : ℕ) → Ending → List ℕ → Framed
lines_within key most e text = framed (header_of key most) Start 1 (told e (lines_of text))

module _ {S W : Type 0} (declare : ℕ → S → List (List ℕ) → Result S W)
    (key : List ℕ) (most : ℕ) (start : S) where
  -- what a text says, or its first fault, whichever way the text ends
  abbrev pub text_said : Ending → List ℕ → Result S (ℕ × FaultKind W)
  text_said e text = said declare 1 start (lines_within key most e text)

  -- line n of a text declares something, and so does each line before it: where memory can run out
  abbrev pub line_declares : ℕ → Ending → List ℕ → Bool
  line_declares n e text = declares_at declare n 1 start (lines_within key most e text)

  -- memory ran out at line n, by the bytes that were read: it declares something, whatever follows
  abbrev pub WantingAt : (old new : Option (List ℕ)) → ℕ → Type 0
  WantingAt old new n = ReadsOn old new (line_declares n) (λ _ _. true)

-- what a reader answers that reads an input from a state on
abbrev pub ReadsText : {S W : Type 0} → (declare : ℕ → S → List (List ℕ) → Result S W)
    → (memory : W → Bool) → (key : List ℕ) → (most : ℕ) → (start : S)
    → Input → Result S (ℕ × FaultKind W) → Type 0
ReadsText declare memory key most start text result =
    Answered memory text.old text.new (text_said declare key most start) text.broken text.unread
    (WantingAt declare key most start text.old text.new) result
