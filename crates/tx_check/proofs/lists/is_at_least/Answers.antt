use Rattle.std.proofs.Common.{rules}
use Rattle.tx_check.proofs.lists.is_at_least.Goals as goal

pub returns-in-Some : goal.returns-in-Some
returns-in-Some c = search rules
