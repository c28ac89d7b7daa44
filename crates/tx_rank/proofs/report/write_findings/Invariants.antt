use Rattle.tx_rank.proofs.Common.{take, flat_map, Puts, finding_line}
use Rattle.tx_rank.proofs.report.write_findings.Given as goal

abbrev pub invariant-loop-i : goal.invariant-loop-i
invariant-loop-i g l = Puts g.W.Sink.taken g.W.Sink.failed l.initial.sink l.sink (flat_map (finding_line l.plan) (take l.i l.findings))
