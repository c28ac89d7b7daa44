use Rattle.tx_risk_report.proofs.Common.{arith, ne_eqb}
use Rattle.tx_risk_report.proofs.totals.write_verdict.Goals as goal

pub returns-else-count-eq0 : goal.returns-else-count-eq0
returns-else-count-eq0 g c =
    let some = c.if-count-eq0.false in
    rw (ne_eqb c.args.count 0 (omega arith))
    (rw (c.as_bytes-count.ensures.value, c.format.ensures.text) at c.put_parts.ensures)
