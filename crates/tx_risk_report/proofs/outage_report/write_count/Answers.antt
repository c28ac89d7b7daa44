use Rattle.tx_risk_report.proofs.outage_report.write_count.Goals as goal

pub returns : goal.returns
returns g c = rw (c.as_bytes-count.ensures.value, c.format.ensures.text) at c.put_parts.ensures
