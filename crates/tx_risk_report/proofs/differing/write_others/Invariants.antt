use Rattle.tx_risk_report.proofs.Common.{take, Puts}
use Rattle.tx_risk_report.specs.Comparison.{other_lines}
use Rattle.tx_risk_report.proofs.differing.write_others.Given as goal

abbrev pub invariant-loop-i : goal.invariant-loop-i
invariant-loop-i g l =
    Puts g.W.Sink.taken g.W.Sink.failed l.initial.sink l.sink
    (other_lines l.head l.plan l.other l.legs (take l.i l.mine) l.others)
