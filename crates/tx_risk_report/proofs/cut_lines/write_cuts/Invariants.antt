use Rattle.tx_risk_report.proofs.Common.{flat_map, range_with_len, Puts, cuts_at}
use Rattle.tx_risk_report.proofs.cut_lines.write_cuts.Given as goal

abbrev pub invariant-loop-index : goal.invariant-loop-index
invariant-loop-index g l =
    Puts g.W.Sink.taken g.W.Sink.failed l.initial.sink l.sink (flat_map (cuts_at l.plan l.legs l.cuts) (range_with_len 0 l.index))
