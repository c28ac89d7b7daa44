use Rattle.std.proofs.Common.{refl}
use Rattle.tx_requests.proofs.auditing.AuditRequestRequest.answer.Goals as goal

pub returns : goal.returns
returns g c = (refl, c.in_ok-ranking.ensures)
