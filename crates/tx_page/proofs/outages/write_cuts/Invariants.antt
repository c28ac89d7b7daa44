use Rattle.tx_page.proofs.Common.{take, flat_map, Sets, cut_texts}
use Rattle.tx_page.proofs.outages.write_cuts.Given as goal

abbrev pub invariant-loop-i : goal.invariant-loop-i
invariant-loop-i g l = Sets g.W.PageSink.seen l.initial.sink l.sink (flat_map (cut_texts l.plan) (take l.i l.cuts))
