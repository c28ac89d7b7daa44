use Rattle.tx_change.proofs.Common.{take, finding_after}
use Rattle.std.specs.List.{flat_map}
use Rattle.tx_text.specs.Puts.{Puts}
use Rattle.tx_change.proofs.report.write_findings_after.Given as goal

abbrev pub invariant-loop-i : goal.invariant-loop-i
invariant-loop-i g l = Puts g.W.Sink.taken g.W.Sink.failed l.initial.sink l.sink (flat_map (finding_after l.word l.plan) (take l.i l.findings))
