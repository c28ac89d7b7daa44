-- What the fields of a reader of texts stand for, and what is true of them.
use Rattle.std.specs.Prelude.{◌≡◌, ◌+◌, ◌-◌, ◌*◌, ◌^◌, ◌<◌, ◌≤◌, true, None, Some, length, take, drop, if◌then◌else◌}
use Rattle.tx_text.specs.Text.{Line}
use Rattle.tx_text.specs.inner.Feed.{Feed}
use Rattle.tx_text.specs.inner.Reading.{Reading, IsFeed}
use Rattle.tx_text.specs.declared.reader.TextReader.TheInside.{Inside}

-- The line that is whole in the buffer, where one is lent.
abbrev pub lent_line : {A : Type 0} → Inside A → Line
lent_line a = record {
  number = a.feeder.number;
  start = a.lent_start;
  bytes = take (a.lent_to - a.lent_from) (drop a.lent_from a.piece);
  finished = true;
}

-- The feeder, with the line that is lent where one is.
abbrev pub lending : {A : Type 0} → Inside A → Feed
lending a = record a.feeder { line = (if a.lent then Some (lent_line a) else a.feeder.line) }

-- The reader that the fields stand for: of its buffer only a part is still to be fed.
abbrev pub reading_of : {A : Type 0} → Inside A → Reading
reading_of a = record {
  feed = lending a;
  piece = take (a.to - a.from) (drop a.from a.piece);
  left = a.left;
}

-- What is true of the fields: the part lies within the buffer, and so does a line that is lent, and
-- no line can be too far on to count.
pub record IsReader {A : Type 0} (a : Inside A) : Type 0 where
  pub order : a.from ≤ a.to
  pub within : a.to ≤ 4096
  pub room : length a.piece ≡ 4096
  pub feed : IsFeed a.feeder
  pub bound : a.feeder.start + length a.feeder.begun + (a.to - a.from) + 4096 * a.left < 2 ^ 64 - 1
  pub lent : a.lent ≡ true → (a.feeder.fault ≡ None)
      × (a.lent_from ≤ a.lent_to) × (a.lent_to ≤ 4096)
