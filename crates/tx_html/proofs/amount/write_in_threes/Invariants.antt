use Rattle.tx_html.proofs.Threes.{ThreesPut}
use Rattle.tx_html.proofs.amount.write_in_threes.Given as goal

abbrev pub invariant-loop-i : goal.invariant-loop-i
invariant-loop-i g l = ThreesPut g.W.Sink.taken g.W.Sink.failed l.figures l.i l.initial.sink l.sink
