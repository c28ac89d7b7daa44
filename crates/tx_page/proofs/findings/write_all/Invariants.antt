use Rattle.tx_page.proofs.Common.{take, flat_map, Sets, finding_texts}
use Rattle.tx_page.proofs.findings.write_all.Given as goal

abbrev pub invariant-loop-i : goal.invariant-loop-i
invariant-loop-i g l = Sets g.W.PageSink.seen l.initial.sink l.sink (flat_map (finding_texts l.plan l.limits.spare) (take l.i l.findings))
