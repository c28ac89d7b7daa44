use Rattle.tx_fill.proofs.Common.{take, flat_map, full_line}
use Rattle.tx_text.specs.Puts.{Puts}
use Rattle.tx_fill.proofs.fill_text.write_all_full.Given as goal

abbrev pub invariant-loop-i : goal.invariant-loop-i
invariant-loop-i g l =
    Puts g.W.Sink.taken g.W.Sink.failed l.initial.sink l.sink (flat_map (full_line l.plan) (take l.i l.full))
