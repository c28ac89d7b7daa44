use Rattle.std.proofs.Common.{rules}
use Rattle.tx_script.proofs.ending.finish.Goals as goal

pub returns-in-Ok-clause-fault : goal.returns-in-Ok-clause-fault
returns-in-Ok-clause-fault g c = search rules
