use Rattle.tx_page.proofs.StepsOfWalks.{StepsSet}
use Rattle.tx_page.proofs.findings.write_steps.Given as goal

abbrev pub invariant-loop-i : goal.invariant-loop-i
invariant-loop-i g l = StepsSet g.W.PageSink.seen l.plan l.code l.fn.start l.steps l.at l.i l.initial.sink l.sink
