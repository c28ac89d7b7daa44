use Rattle.std.proofs.Common.{rules}
use Rattle.tx_text.proofs.from_read.FromReadSource.read.Goals as goal

pub returns-in-Ok-clause-call : goal.returns-in-Ok-clause-call
returns-in-Ok-clause-call g c = search rules

pub returns-in-Ok-clause-mark : goal.returns-in-Ok-clause-mark
returns-in-Ok-clause-mark g c = search rules
