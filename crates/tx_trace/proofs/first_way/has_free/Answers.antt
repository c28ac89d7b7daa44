use Rattle.std.proofs.Common.{rules}
use Rattle.tx_trace.proofs.first_way.has_free.Goals as goal

pub returns : goal.returns
returns g c = search rules
