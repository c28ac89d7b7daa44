use Rattle.std.proofs.Common.{rules}
use Rattle.tx_rank.proofs.explore.is_open.Goals as goal

pub returns-in_default-clause-open : goal.returns-in_default-clause-open
returns-in_default-clause-open c = search rules
