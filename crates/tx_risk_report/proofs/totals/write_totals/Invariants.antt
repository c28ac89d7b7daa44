use Rattle.tx_risk_report.proofs.Common.{take, flat_map, Puts, total_text}
use Rattle.tx_risk_report.proofs.totals.write_totals.Given as goal

abbrev pub invariant-loop-i : goal.invariant-loop-i
invariant-loop-i g l =
    Puts g.W.Sink.taken g.W.Sink.failed l.initial.sink l.sink (flat_map (total_text l.plan l.risks) (take l.i l.outcomes))
