use Rattle.tx_risk_report.proofs.Common.{take, flat_map, Puts, compared_total}
use Rattle.tx_risk_report.proofs.comparison.write_compared_totals.Given as goal

abbrev pub invariant-loop-i : goal.invariant-loop-i
invariant-loop-i g l =
    Puts g.W.Sink.taken g.W.Sink.failed l.initial.sink l.sink
    (flat_map (compared_total l.comparison) (take l.i l.comparison.outages.now))
