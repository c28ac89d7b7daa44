use Rattle.tx_text.proofs.Putting.{puts_then}
use Rattle.tx_risk_report.proofs.comparison.write_grades.Goals as goal

pub returns : goal.returns
returns g c =
    puts_then (rw (c.is_lower.ensures, c.is_lower-2.ensures) at c.write_change.ensures)
    (puts_then c.put_bytes.ensures (puts_then c.write_bounds.ensures (puts_then c.put_bytes-2.ensures
    (puts_then c.write_bounds-2.ensures c.put_bytes-3.ensures))))
