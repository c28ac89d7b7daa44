use Rattle.tx_page.proofs.Common.{take, flat_map, Sets, shown_texts}
use Rattle.tx_page.proofs.outages.write_outcomes.Given as goal

abbrev pub invariant-loop-i : goal.invariant-loop-i
invariant-loop-i g l = Sets g.W.PageSink.seen l.initial.sink l.sink (flat_map (shown_texts l.plan l.risks) (take l.i l.outcomes))
