use Rattle.tx_risk_report.proofs.Common.{take, flat_map, Puts, compared_block}
use Rattle.tx_risk_report.proofs.differing.write_compared_blocks.Given as goal

abbrev pub invariant-loop-i : goal.invariant-loop-i
invariant-loop-i g l =
    Puts g.W.Sink.taken g.W.Sink.failed l.initial.sink l.sink
    (flat_map (compared_block l.comparison) (take l.i l.comparison.outages.now))
