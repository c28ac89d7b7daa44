use Rattle.tx_risk_report.proofs.Common.{flat_map, range_with_len, Puts}
use Rattle.tx_risk_report.specs.OutageReport.{unknown_line}
use Rattle.tx_risk_report.proofs.outage_report.write_unknown.Given as goal

abbrev pub invariant-loop-index : goal.invariant-loop-index
invariant-loop-index g l =
    Puts g.W.Sink.taken g.W.Sink.failed l.initial.sink l.sink
    (flat_map (unknown_line l.risks) (range_with_len 0 l.index))
