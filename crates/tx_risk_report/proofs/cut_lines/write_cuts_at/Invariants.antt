use Rattle.tx_risk_report.proofs.Common.{take, Puts, cuts_at}
use Rattle.tx_risk_report.proofs.cut_lines.write_cuts_at.Given as goal

abbrev pub invariant-loop-i : goal.invariant-loop-i
invariant-loop-i g l =
    Puts g.W.Sink.taken g.W.Sink.failed l.initial.sink l.sink (cuts_at l.plan l.legs (take l.i l.cuts) l.exchange)
