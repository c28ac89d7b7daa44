use Rattle.tx_risk_report.proofs.Common.{some, puts_wrote}
use Rattle.tx_risk_report.proofs.outage_report.write_survival.Goals as goal

pub returns-in-Tried : goal.returns-in-Tried
returns-in-Tried g c = rw c.in-Tried.is (puts_wrote _ some (rw c.deref.ensures.value at c.write_tried.ensures) c.finish.ensures)
