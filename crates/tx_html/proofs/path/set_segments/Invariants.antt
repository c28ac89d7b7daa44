use Rattle.std.proofs.Common.{[]}
use Rattle.tx_html.specs.Shows.{Sets, seen_by}
use Rattle.tx_html.proofs.path.set_segments.Given as goal

abbrev pub invariant-loop-index : goal.invariant-loop-index
invariant-loop-index g l = Sets (seen_by g.W.Sink.taken g.W.Sink.failed) l.initial.sink l.sink []
