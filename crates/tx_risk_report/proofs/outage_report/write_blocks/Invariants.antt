use Rattle.tx_risk_report.proofs.Common.{take, flat_map, Puts, block_text}
use Rattle.tx_risk_report.proofs.outage_report.write_blocks.Given as goal

abbrev pub invariant-loop-i : goal.invariant-loop-i
invariant-loop-i g l =
    Puts g.W.Sink.taken g.W.Sink.failed l.initial.sink l.sink (flat_map (block_text l.plan l.risks) (take l.i l.outcomes))
