use Rattle.tx_page.proofs.Common.{take, flat_map, Sets, code_texts}
use Rattle.tx_page.proofs.codes.write_rows.Given as goal

abbrev pub invariant-loop-i : goal.invariant-loop-i
invariant-loop-i g l = Sets g.W.PageSink.seen l.initial.sink l.sink (flat_map (code_texts l.plan) (take l.i l.grades))
