-- What the fields of a line feeder stand for, and what is true of them.
use Rattle.std.specs.Prelude.{◌+◌, ◌-◌, ◌^◌, ◌<◌, ◌≤◌, [], None, Some, length, vec_capacity, if◌then◌else◌}
use Rattle.tx_text.specs.Text.{Line}
use Rattle.tx_text.specs.inner.Feed.{Feed}
use Rattle.tx_text.specs.declared.feeder.LineFeeder.TheInside.{Inside}

-- The completed line that the fields hold.
abbrev pub held_line : {A : Type 0} → Inside A → Line
held_line a = record {
  number = a.number;
  start = a.line_start;
  bytes = a.held.items;
  finished = a.finished;
}

-- The feeder that the fields stand for: they hold either a line that has begun or a completed one.
abbrev pub feed_of : {A : Type 0} → Inside A → Feed
feed_of a = record {
  number = a.number;
  start = a.start;
  begun = (if a.complete then [] else a.held.items);
  line = (if a.complete then Some (held_line a) else None);
  fault = a.fault;
}

-- What is true of the fields: there is room for a line, and the counts fit.
pub record IsFeeder {A : Type 0} (a : Inside A) : Type 0 where
  pub room : 513 ≤ vec_capacity a.held
  pub number : a.number ≤ a.start
  pub fed : a.start + length (feed_of a).begun < 2 ^ 64 - 1
  pub short : length (feed_of a).begun ≤ 513
