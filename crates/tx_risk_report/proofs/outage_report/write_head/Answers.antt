use Rattle.tx_risk_report.proofs.Common.{puts_then}
use Rattle.tx_risk_report.proofs.outage_report.write_head.Goals as goal

pub returns : goal.returns
returns g c = puts_then c.write_count.ensures c.write_unknown.ensures
