-- All faults of a plan's text. A line at fault is reported and passed over, and the
-- next ones are read on.
use Rattle.std.specs.Prelude.{ℕ, ◌+◌, Bool, true, false, List, [], ◌∷◌, ◌++◌, map, codes, if◌then◌else◌, Option, None, Some, is_none, Ok, Err}
use Rattle.std.specs.Option.{option_map, option_to_list}
use Rattle.tx_text.specs.declared.text_fault.TextFault.{TextFault}
use Rattle.tx_text.specs.declared.frame.FrameFault.{FrameFault}
use Rattle.tx_text.specs.declared.frame.FrameFault.TheVariants.{NoHeader}
use Rattle.tx_text.specs.declared.frame.FaultKind.{FaultKind}
use Rattle.tx_text.specs.declared.frame.FaultKind.TheVariants.{Frame, Word}
use Rattle.tx_text.specs.declared.frame.FramePart.{FramePart}
use Rattle.tx_text.specs.declared.frame.FramePart.TheVariants.{Start, Body, Ended}
use Rattle.tx_text.specs.declared.frame.LineForm.{LineForm}
use Rattle.tx_text.specs.declared.frame.LineForm.TheVariants.{Blank, Header as HeaderLine, Plain, End, Bad}
use Rattle.tx_text.specs.Text.{Line, lines_of, bytes_fault}
use Rattle.tx_text.specs.Words.{words_of}
use Rattle.tx_text.specs.Told.{frame_fault}
use Rattle.tx_text.specs.Frame.{header_of, looked, closing, last_fault}
use Rattle.tx_plan.specs.Plan.{Plan, no_plan}
use Rattle.tx_plantext.specs.declared.fault.PlanWord.{PlanWord}
use Rattle.tx_plantext.specs.PlanText.{Said, declare}
use Rattle.tx_lint.specs.declared.entry.Entry.{Entry}
use Rattle.tx_lint.specs.declared.entry.Entry.TheVariants.{Header}
use Rattle.tx_lint.specs.AtFault.{entry_of, word_at_fault, meant_name}

-- A fault: its line, what is wrong, the word at fault, where one is, and the name that the line was
-- meant to declare, if it was meant to declare one
pub record Fault : Type 0 where
  pub line : ℕ
  pub kind : FaultKind PlanWord
  pub word : Option (List ℕ)
  pub meant : Option (List ℕ)

-- What was read of a text: which part of it is to come, the version of its header, what its lines
-- declare, and at which line each entry is, in order of the lines
pub record Progress : Type 0 where
  pub part : FramePart
  pub version : ℕ
  pub plan : Plan
  pub entries : List (ℕ × Entry)

-- nothing was read yet
abbrev pub no_progress : Progress
no_progress = record { part = Start; version = 1; plan = no_plan; entries = [] }

-- what a line's words declare is refused
abbrev pub word_fault : Said → Option (FaultKind PlanWord)
word_fault (Ok p) = None
word_fault (Err x) = Some (Word x)

-- of a finished line with these words, by what it is in the frame
abbrev pub form_kind : Progress → List (List ℕ) → LineForm → Option (FaultKind PlanWord)
form_kind s ws Blank = None
form_kind s ws (HeaderLine v) = None
form_kind s ws Plain = word_fault (declare s.version s.plan ws)
form_kind s ws End = None
form_kind s ws (Bad x) = Some (Frame x)

-- what a finished line with these words is in the frame of a plan
abbrev pub form_of : FramePart → List (List ℕ) → LineForm
form_of part ws = looked (header_of (codes "PLAN") 2) part ws

-- the form of a text is faulty
abbrev pub form_told : Option FrameFault → Option (FaultKind PlanWord)
form_told x = option_map (λ f. Frame f) x

-- of the words of a line, whether an LF ended it or the text
abbrev pub words_kind : Progress → Bool → List (List ℕ) → Option (FaultKind PlanWord)
words_kind s true ws = form_kind s ws (form_of s.part ws)
words_kind s false ws = form_told (last_fault s.part ws)

-- The bytes of a line come before its words.
abbrev pub bytes_first : Option TextFault → Option (FaultKind PlanWord)
    → Option (FaultKind PlanWord)
bytes_first (Some x) k = Some (Frame (frame_fault x))
bytes_first None k = k

-- what is wrong with a line: first its bytes, then its words
abbrev pub line_kind : Progress → Line → Option (FaultKind PlanWord)
line_kind s l = bytes_first (bytes_fault l.bytes) (words_kind s l.finished (words_of l.bytes))

-- the fault of the line with this number and these words
abbrev pub fault_in_line : Progress → ℕ → List (List ℕ) → FaultKind PlanWord → Fault
fault_in_line s n ws k = record {
  line = n;
  kind = k;
  word = word_at_fault s.plan ws k;
  meant = meant_name ws;
}

-- the fault of a line, if it has one
abbrev pub fault_of_line : Progress → Line → Option Fault
fault_of_line s l = option_map (fault_in_line s l.number (words_of l.bytes)) (line_kind s l)

-- a fault of the end of a text, at this line
abbrev pub fault_at_end : ℕ → FaultKind PlanWord → Fault
fault_at_end n k = record { line = n; kind = k; word = None; meant = None }

-- the fault of the end of a text, if it has one: n is the number of its finished lines and one
abbrev pub fault_of_end : ℕ → FramePart → Option Fault
fault_of_end n part = option_map (fault_at_end n) (form_told (closing part))

-- the entry that a line of these words adds, with its line
abbrev pub entry_at : Plan → ℕ → List (List ℕ) → List (ℕ × Entry)
entry_at p n [] = []
entry_at p n (w ∷ ws) = map (λ e. (n, e)) (option_to_list (entry_of p w))

-- A line that is refused leads nowhere.
abbrev pub declared_on : Progress → ℕ → List (List ℕ) → Said → Progress
declared_on s n ws (Ok p) = record s { plan = p; entries = s.entries ++ entry_at s.plan n ws }
declared_on s n ws (Err x) = s

-- By what it is in the frame. After a wrong header the lines of the plan are read on, under the
-- second version, which has all words.
abbrev pub form_on : Progress → ℕ → List (List ℕ) → LineForm → Progress
form_on s n ws Blank = s
form_on s n ws (HeaderLine v) =
    record s { part = Body; version = v; entries = s.entries ++ (n, Header) ∷ [] }
form_on s n ws Plain = declared_on s n ws (declare s.version s.plan ws)
form_on s n ws End = record s { part = Ended }
form_on s n ws (Bad NoHeader) = record s { part = Body; version = 2 }
form_on s n ws (Bad other) = s

-- A line of wrong bytes leads nowhere.
abbrev pub line_on : Progress → Line → Progress
line_on s l =
    if is_none (bytes_fault l.bytes)
    then form_on s l.number (words_of l.bytes) (form_of s.part (words_of l.bytes)) else s

-- The faults of lines, of which the first has the number n. One that no LF ends is the last.
unfoldable pub faults_from : Progress → (n : ℕ) → List Line → List Fault
faults_from s n [] = option_to_list (fault_of_end n s.part)
faults_from s n (l ∷ ls) = option_to_list (fault_of_line s l)
    ++ (if l.finished then faults_from (line_on s l) (l.number + 1) ls else [])

-- what was read after these lines
unfoldable pub progress_from : Progress → List Line → Progress
progress_from s [] = s
progress_from s (l ∷ ls) = if l.finished then progress_from (line_on s l) ls else s

-- All faults of a text, in order of the lines
abbrev pub faults_of : List ℕ → List Fault
faults_of text = faults_from no_progress 1 (lines_of text)

-- what is read of a text
abbrev pub progress_of : List ℕ → Progress
progress_of text = progress_from no_progress (lines_of text)
