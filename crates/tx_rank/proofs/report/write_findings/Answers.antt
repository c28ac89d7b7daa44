use Rattle.tx_rank.proofs.Common.{puts_then, puts_all, finding_line}
use Rattle.tx_rank.proofs.report.write_findings.Goals as goal

pub returns : goal.returns
returns g c =
    puts_then (puts_all (finding_line c.args.plan.now) c.args.findings.now c.loop-i-test.false c.loop-i.invariant) c.write_verdict.ensures
