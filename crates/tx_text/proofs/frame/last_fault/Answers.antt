use Rattle.std.proofs.Common.{rules}
use Rattle.tx_text.proofs.frame.last_fault.Goals as goal

pub returns-else-end-2 : goal.returns-else-end-2
returns-else-end-2 c = search rules
