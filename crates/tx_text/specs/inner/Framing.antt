-- A frame reader: what is to come, and what a call that goes on says.
use Rattle.std.specs.Prelude.{◌≡◌, ℕ, ◌<◌, List, [], Option, None, Some, Result, Ok, Err}
use Rattle.std.specs.Io.KnownBytes.{IsAtEnd}
use Rattle.tx_text.specs.declared.source.ReadFault.{ReadFault}
use Rattle.tx_text.specs.declared.frame.FrameFault.{FrameFault}
use Rattle.tx_text.specs.declared.frame.FramePart.{FramePart}
use Rattle.tx_text.specs.declared.frame.FramePart.TheVariants.{Start}
use Rattle.tx_text.specs.declared.frame.FrameStop.{FrameStop as StopAt}
use Rattle.tx_text.specs.declared.frame.FrameStep.{FrameStep}
use Rattle.tx_text.specs.declared.frame.FrameStep.TheVariants.{Header, Line as LineStep, End}
use Rattle.tx_text.specs.Text.{Line}
use Rattle.tx_text.specs.Words.{words_of}
use Rattle.tx_text.specs.Told.{Ending, AtEnd}
use Rattle.tx_text.specs.Frame.{Framed, Done, Stop, Headed, Has, header_of, framed, ReadsOn, EndsAs, Stopped, is_read}
use Rattle.tx_text.specs.inner.CallsLeft.{Went}
use Rattle.tx_text.specs.inner.Reading.{Reading, told_at, reading_rest, reading_of_calls, reading_size}

-- a frame reader: its header's key and greatest version, the part of the text that it reads, the
-- number of finished lines plus 1, and its reader of lines
pub record FrameReading : Type 0 where
  pub key : List ℕ
  pub most : ℕ
  pub phase : FramePart
  pub number : ℕ
  pub reader : Reading

-- nothing was read yet, and so many calls are allowed
abbrev pub frame_start : List ℕ → ℕ → ℕ → FrameReading
frame_start key most calls = record {
  key = key;
  most = most;
  phase = Start;
  number = 1;
  reader = reading_of_calls calls;
}

-- the line that the reader holds
abbrev pub line_of_frame : FrameReading → Option Line
line_of_frame v = v.reader.feed.line

-- no line was faulty yet
abbrev pub IsSound : FrameReading → Type 0
IsSound v = v.reader.feed.fault ≡ None

-- what comes from here on, where these bytes follow
abbrev pub to_come : FrameReading → Ending → List ℕ → Framed
to_come v e more = framed (header_of v.key v.most) v.phase v.number
    (told_at (reading_rest v.reader) e more)

-- the number of the line that the reader holds
abbrev pub number_of_line : Option Line → ℕ
number_of_line None = 0
number_of_line (Some l) = l.number

-- the words of the line that the reader holds
abbrev pub words_of_line : Option Line → List (List ℕ)
words_of_line None = []
words_of_line (Some l) = words_of l.bytes

-- F is what was to come and G what is to come now; l is the line that the reader holds
abbrev pub GoesOn : Option (List ℕ) → Option (List ℕ)
    → (F G : Ending → List ℕ → Framed) → Option Line → Type 0 → Result FrameStep StopAt → Type 0
GoesOn old new F G l broken (Ok (Header w)) = ReadsOn old new F (λ e more. Headed w (G e more))
GoesOn old new F G l broken (Ok LineStep) =
    ReadsOn old new F (λ e more. Has (number_of_line l) (words_of_line l) (G e more))
GoesOn old new F G l broken (Ok End) = EndsAs old new F AtEnd Done × IsAtEnd new
GoesOn old new F G l broken (Err x) =
    Stopped old new F broken (is_read x.fault) (Stop x.line x.fault)

-- The calls that were made gave bytes, and less is left to read. So a loop that goes on in a text
-- ends, and keeps the bound on calls.
pub record WentOn {S : Type 0} (called : ℕ → Result ℕ ReadFault → S → S → Type 0)
    (old new : Reading) (a c : S) : Type 0 where
  pub went : Went called old.left new.left a c
  pub falls : reading_size new < reading_size old

-- what to answer where the text ends
abbrev pub end_as : ℕ → Option FrameFault → Result FrameStep StopAt
end_as n None = Ok End
end_as n (Some k) = Err (record { line = n; fault = k })
