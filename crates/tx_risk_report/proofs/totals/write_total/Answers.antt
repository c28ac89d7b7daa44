use Rattle.tx_risk_report.proofs.Common.{◌∙◌, sym, puts_then}
use Rattle.tx_risk_report.proofs.totals.write_total.Goals as goal

pub returns : goal.returns
returns g c =
    rw (sym c.is_harmless.ensures ∙ c.if-is_harmless.false)
    (puts_then c.write_outage.ensures
    (puts_then (rw c.deref.ensures.value at c.write_counts.ensures) c.put_bytes.ensures))
