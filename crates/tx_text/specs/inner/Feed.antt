-- A line feeder: what it has read of a line, and what a call makes of it.
use Rattle.std.specs.Prelude.{ℕ, ◌+◌, Bool, true, false, nat_lt, List, [], ◌++◌, Option, None, Some, Result, Ok, Err, length, take, if◌then◌else◌}
use Rattle.std.specs.List.{position_or_len}
use Rattle.tx_text.specs.declared.text_fault.TextFault.{TextFault}
use Rattle.tx_text.specs.declared.feeder.Fed.{Fed}
use Rattle.tx_text.specs.Text.{Line, is_lf, without_cr, bytes_fault, begun_fault}

-- a line feeder, as its callers see it
pub record Feed : Type 0 where
  pub number : ℕ  -- of lines that are complete
  pub start : ℕ  -- where the begun line starts
  pub begun : List ℕ  -- the bytes of the begun line so far
  pub line : Option Line  -- the line that the last call completed
  pub fault : Option TextFault

-- the begun line goes on with these bytes, and no LF came yet
abbrev pub begun_more : Feed → List ℕ → Feed
begun_more f bytes = record f { begun = f.begun ++ bytes; line = None }

-- an LF came after these bytes
abbrev pub feed_with_line : Feed → List ℕ → Feed
feed_with_line f bytes = record f {
  number = f.number + 1;
  start = f.start + length f.begun + length bytes + 1;
  begun = [];
  line = Some (record {
    number = f.number + 1;
    start = f.start;
    bytes = without_cr (f.begun ++ bytes);
    finished = true;
  });
}

-- there is a fault from now on
abbrev pub feed_with_fault : Feed → TextFault → Feed
feed_with_fault f x = record f { begun = []; line = None; fault = Some x }

-- what is before the first LF of a piece
abbrev pub front_of : List ℕ → List ℕ
front_of piece = take (position_or_len is_lf piece) piece

-- whether an LF is in the piece
abbrev pub has_lf : List ℕ → Bool
has_lf piece = nat_lt (position_or_len is_lf piece) (length piece)

-- what is wrong after the front of a piece, and the LF after it if there is one
abbrev pub line_fault : Bool → List ℕ → Option TextFault
line_fault lf bytes = if lf then bytes_fault (without_cr bytes) else begun_fault bytes

-- The fault that a piece makes of the line that has begun.
abbrev pub piece_fault : Feed → List ℕ → Option TextFault
piece_fault f piece = line_fault (has_lf piece) (f.begun ++ front_of piece)

-- what a call gives: by an earlier fault, the fault that the piece makes, whether an LF came, and
-- how many bytes are before it
abbrev pub gives_by : Option TextFault → Option TextFault → Bool → ℕ → Result Fed TextFault
gives_by (Some x) p lf n = Err x
gives_by None (Some x) lf n = Err x
gives_by None None true n = Ok (record { taken = n + 1; line = true })
gives_by None None false n = Ok (record { taken = n; line = false })

-- What a call leaves: nothing changes after a fault, and else the line goes on, or is complete, or
-- faulty from now on.
abbrev pub leaves_by : Feed → List ℕ → Option TextFault → Option TextFault → Bool → Feed
leaves_by f front (Some x) p lf = f
leaves_by f front None (Some x) lf = feed_with_fault f x
leaves_by f front None None true = feed_with_line f front
leaves_by f front None None false = begun_more f front

-- What feeding a piece gives.
abbrev pub feed_gives : Feed → List ℕ → Result Fed TextFault
feed_gives f piece = gives_by f.fault (piece_fault f piece) (has_lf piece) (length (front_of piece))

-- What feeding a piece leaves.
abbrev pub feed_leaves : Feed → List ℕ → Feed
feed_leaves f piece = leaves_by f (front_of piece) f.fault (piece_fault f piece) (has_lf piece)

-- the text came to its end
abbrev pub feed_at_end : Feed → Feed
feed_at_end f = record f {
  number = f.number + 1;
  start = f.start + length f.begun;
  begun = [];
  line =
      Some (record { number = f.number + 1; start = f.start; bytes = f.begun; finished = false });
}

-- by an earlier fault, whether a line has begun, and what is wrong with it
abbrev pub ends_giving : Option TextFault → Bool → Option TextFault → Result Bool TextFault
ends_giving (Some x) b p = Err x
ends_giving None false p = Ok false
ends_giving None true (Some x) = Err x
ends_giving None true None = Ok true

-- What the end of the text leaves: nothing changes after a fault, and else the line that has begun
-- is complete, or faulty from now on.
abbrev pub ends_leaving : Feed → Option TextFault → Bool → Option TextFault → Feed
ends_leaving f (Some x) b p = f
ends_leaving f None false p = record f { line = None }
ends_leaving f None true (Some x) = feed_with_fault f x
ends_leaving f None true None = feed_at_end f

-- what the end of the text gives: whether there is an unfinished line, or its fault
abbrev pub finish_gives : Feed → Result Bool TextFault
finish_gives f = ends_giving f.fault (nat_lt 0 (length f.begun)) (bytes_fault f.begun)

-- What the end of the text leaves of a feeder.
abbrev pub finish_leaves : Feed → Feed
finish_leaves f = ends_leaving f f.fault (nat_lt 0 (length f.begun)) (bytes_fault f.begun)
