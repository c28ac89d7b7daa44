use Rattle.std.proofs.Common.{rules}
use Rattle.tx_circuits.proofs.slot.CircuitState.is_free.Goals as goal

pub returns-then-not-self-3 : goal.returns-then-not-self-3
returns-then-not-self-3 c = search rules

pub returns-else-not-self-3 : goal.returns-else-not-self-3
returns-else-not-self-3 c = search rules
