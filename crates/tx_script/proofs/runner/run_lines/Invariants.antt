use Rattle.tx_script.proofs.Common.{◌≡◌, None, source_calls, reading_size, to_come}
use Rattle.tx_text.specs.inner.CallsLeft.{Went}
use Rattle.tx_script.proofs.Running.{IsRunning}
use Rattle.tx_script.proofs.runner.run_lines.Given as goal

abbrev pub invariant-lines : goal.invariant-lines
invariant-lines g l = record {
  plan : g.N.Network.plan l.net ≡ l.plan;
  runs : IsRunning l.plan l.fn.teller.echo l.fn.teller.counts l.teller.counts (g.R.Source.rest l.fn.source) (g.R.Source.rest l.source) (g.N.Network.state l.fn.net) (g.N.Network.state l.net) (g.W.Sink.taken l.fn.sink) (g.W.Sink.taken l.sink) (to_come l.frame) l.tally (reading_size l.frame.reader);
  echo : l.teller.echo ≡ l.fn.teller.echo;
  mark : g.W.Sink.failed l.sink ≡ g.W.Sink.failed l.fn.sink;
  sound : l.frame.reader.feed.fault ≡ None;
  went : Went g.R.Source.called source_calls l.frame.reader.left l.fn.source l.source;
}

abbrev pub decreases-lines : goal.decreases-lines
decreases-lines g l = reading_size l.frame.reader
