use Rattle.tx_trace.proofs.Blocked.{replies_left}
use Rattle.tx_trace.proofs.law.blocked_replies_as_left.Goals as goal

pub returns : goal.returns
returns c = λ p down s events ok blocked others. replies_left p ok down events s blocked others
