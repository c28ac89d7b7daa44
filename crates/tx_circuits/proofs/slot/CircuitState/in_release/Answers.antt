use Rattle.std.proofs.Common.{rules}
use Rattle.tx_circuits.proofs.slot.CircuitState.in_release.Goals as goal

pub returns : goal.returns
returns c = search rules
