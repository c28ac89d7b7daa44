use Rattle.tx_text.proofs.Putting.{puts_then}
use Rattle.tx_risk_report.proofs.outage_report.write_tried.Goals as goal

pub returns : goal.returns
returns g c =
    puts_then c.write_head.ensures (puts_then c.write_totals.ensures (puts_then c.write_harmless.ensures (puts_then c.write_blocks.ensures (rw c.count_all.ensures at c.write_verdict.ensures))))
