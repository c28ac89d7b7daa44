use Rattle.tx_text.proofs.Putting.{puts_then}
use Rattle.tx_risk_report.proofs.comparison.write_compared.Goals as goal

pub returns : goal.returns
returns g c =
    puts_then c.write_head.ensures (puts_then c.write_grades.ensures
    (puts_then c.write_compared_totals.ensures (puts_then c.write_free.ensures
    (puts_then c.write_compared_blocks.ensures (rw c.count_worse.ensures at c.write_verdict.ensures)))))
