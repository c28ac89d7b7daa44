use Rattle.tx_risk_report.proofs.Common.{◌∙◌, sym, puts_then}
use Rattle.tx_risk_report.proofs.outage_report.write_block.Goals as goal

pub returns : goal.returns
returns g c =
    rw (sym c.is_harmless.ensures ∙ c.if-is_harmless.false) (puts_then c.write_outage.ensures (puts_then c.put_bytes.ensures (rw (c.deref.ensures.value, c.deref-2.ensures.value) at c.write_cuts.ensures)))
