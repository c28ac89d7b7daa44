-- A reader of texts: where it stands, what is to come from there, and what a call says.
use Rattle.std.specs.Prelude.{◌≡◌, ℕ, ◌+◌, ◌*◌, length, Bool, true, false, List, [], ◌++◌, Option, None, Some, Result, Ok, Err, drop}
use Rattle.std.specs.List.{All}
use Rattle.std.specs.Io.KnownBytes.{IsAtEnd}
use Rattle.tx_text.specs.declared.text_fault.TextFault.{TextFault}
use Rattle.tx_text.specs.declared.frame.FrameFault.{FrameFault}
use Rattle.tx_text.specs.declared.feeder.Fed.{Fed}
use Rattle.tx_text.specs.Text.{Line, is_lf, lines_from, begun_fault}
use Rattle.tx_text.specs.Told.{Ending, AtEnd, Told, Closed, Faulty, Then, frame_fault, told}
use Rattle.tx_text.specs.Frame.{ReadsOn, EndsAs, Stopped, is_read}
use Rattle.tx_text.specs.inner.Feed.{Feed, feed_gives, feed_leaves}

-- where a reader stands: how many lines it gave, where the next one starts, and the bytes of it and
-- after it that were read
pub record Rest : Type 0 where
  pub number : ℕ
  pub start : ℕ
  pub ahead : List ℕ

-- what comes after what was read, where these bytes follow
unfoldable pub told_at : Rest → Ending → List ℕ → Told
told_at p e more = told e (lines_from (p.number + 1) p.start (p.ahead ++ more))

-- a line came; an unfinished one is the last
abbrev pub LineCame : Option (List ℕ) → Option (List ℕ) → Rest → Rest → Line → Bool → Type 0
LineCame old new p q l true = ReadsOn old new (told_at p) (λ e more. Then l (told_at q e more))
LineCame old new p q l false = EndsAs old new (told_at p) AtEnd (Then l Closed) × IsAtEnd new

-- a line came, and the reader holds it
abbrev pub Came : Option (List ℕ) → Option (List ℕ) → Rest → Rest → Option Line → Type 0
Came old new p q None = ⊥
Came old new p q (Some l) = LineCame old new p q l l.finished

-- what a call that goes on to the next line says
abbrev pub Advances : Option (List ℕ) → Option (List ℕ)
    → Rest → Rest → Option Line → Type 0 → Result Bool FrameFault → Type 0
Advances old new p q given broken (Ok true) = Came old new p q given
Advances old new p q given broken (Ok false) =
    EndsAs old new (told_at p) AtEnd Closed × IsAtEnd new
Advances old new p q given broken (Err f) =
    Stopped old new (told_at p) broken (is_read f) (Faulty f)

-- what is true of a line feeder: the line that has begun has no LF, and isn't too long yet
pub record IsFeed (f : Feed) : Type 0 where
  pub no_lf : All (λ b. is_lf b ≡ false) f.begun
  pub short : begun_fault f.begun ≡ None

-- where a feeder stands that has a piece to take yet
abbrev pub rest_of : Feed → List ℕ → Rest
rest_of f piece = record { number = f.number; start = f.start; ahead = f.begun ++ piece }

-- a reader of texts: its feeder, the bytes that it read and hasn't fed, and how often it may read
-- yet
pub record Reading : Type 0 where
  pub feed : Feed
  pub piece : List ℕ
  pub left : ℕ

-- where a reader stands
abbrev pub reading_rest : Reading → Rest
reading_rest r = rest_of r.feed r.piece

-- whether feeding completed a line, or the fault of its bytes
abbrev pub has_line : Result Fed TextFault → Result Bool FrameFault
has_line (Ok fed) = Ok fed.line
has_line (Err x) = Err (frame_fault x)

-- what is left of a piece that was fed
abbrev pub piece_left : Result Fed TextFault → List ℕ → List ℕ
piece_left (Ok fed) piece = drop fed.taken piece
piece_left (Err x) piece = piece

-- the feeder took what it could of the piece
abbrev pub fed_on : Reading → Reading
fed_on r = record {
  feed = feed_leaves r.feed r.piece;
  piece = piece_left (feed_gives r.feed r.piece) r.piece;
  left = r.left;
}

-- whether there is an unfinished line, or the fault of its bytes
abbrev pub ended_as : Result Bool TextFault → Result Bool FrameFault
ended_as (Ok b) = Ok b
ended_as (Err x) = Err (frame_fault x)

-- nothing was read yet, and so many calls are allowed
abbrev pub reading_of_calls : ℕ → Reading
reading_of_calls calls = record {
  feed = record {
    number = 0;
    start = 0;
    begun = [];
    line = None;
    fault = None;
  };
  piece = [];
  left = calls;
}

-- each line that is given makes it smaller
abbrev pub reading_size : Reading → ℕ
reading_size r = 4097 * r.left + length r.piece
