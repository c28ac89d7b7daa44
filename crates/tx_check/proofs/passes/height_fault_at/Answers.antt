use Rattle.std.proofs.Common.{rules}
use Rattle.tx_check.proofs.passes.height_fault_at.Goals as goal

pub returns-else-rank-from : goal.returns-else-rank-from
returns-else-rank-from g c = search rules
