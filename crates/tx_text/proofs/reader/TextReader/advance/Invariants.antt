use Rattle.tx_text.proofs.Common.{◌≡◌, ◌≤◌, None, ReadsOn, Went}
use Rattle.tx_text.specs.inner.Reading.{told_at, reading_rest, reading_size}
use Rattle.tx_text.proofs.reader.TextReader.advance.Given as goal

abbrev pub invariant-pieces : goal.invariant-pieces
invariant-pieces g l = record {
  says : ReadsOn (g.R.Source.rest l.initial.source) (g.R.Source.rest l.source) (told_at (reading_rest l.initial.self)) (told_at (reading_rest l.self));
  sound : l.self.feed.fault ≡ None;
  less : reading_size l.self ≤ reading_size l.initial.self;
  went : Went g.R.Source.called l.initial.self.left l.self.left l.initial.source l.source;
  unmarked : g.R.Source.failed l.source ≡ g.R.Source.failed l.initial.source;
}

abbrev pub decreases-pieces : goal.decreases-pieces
decreases-pieces g l = l.self.left
