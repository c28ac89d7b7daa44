use Rattle.std.proofs.Common.{rules}
use Rattle.tx_machine.proofs.refusals.of_key.Goals as goal

pub returns-then-status-2 : goal.returns-then-status-2
returns-then-status-2 g c = search rules
