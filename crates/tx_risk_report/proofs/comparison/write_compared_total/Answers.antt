use Rattle.tx_risk_report.proofs.Common.{◌∙◌, sym, puts_then}
use Rattle.tx_risk_report.proofs.comparison.write_compared_total.Goals as goal

pub returns : goal.returns
returns g c =
    rw (sym c.is_free.ensures ∙ c.if-is_free.false)
    (puts_then (rw (c.is_worse-worse.ensures, c.is_better-better.ensures) at c.write_change.ensures)
    (puts_then c.write_outage.ensures
    (puts_then (rw c.both_cuts.ensures.new at c.write_counts.ensures)
    (puts_then c.put_bytes.ensures
    (puts_then (rw c.both_cuts.ensures.old at c.write_counts-2.ensures) c.put_bytes-2.ensures)))))
