use Rattle.std.proofs.Common.{rules}
use Rattle.tx_check.proofs.lists.short_fault.Goals as goal

pub returns-else-list-from : goal.returns-else-list-from
returns-else-list-from c = search rules
