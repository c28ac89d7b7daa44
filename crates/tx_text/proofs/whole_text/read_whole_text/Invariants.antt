use Rattle.tx_text.proofs.Common.{◌≡◌, prepend_known, Went, source_calls}
use Rattle.tx_text.proofs.whole_text.read_whole_text.Given as goal

abbrev pub invariant-loop-left : goal.invariant-loop-left
invariant-loop-left g l = record {
  moves : g.R.Source.rest l.initial.source
      ≡ prepend_known l.text.items (g.R.Source.rest l.source);
  went : Went g.R.Source.called source_calls l.left l.initial.source l.source;
}

abbrev pub decreases-loop-left : goal.decreases-loop-left
decreases-loop-left g l = l.left
