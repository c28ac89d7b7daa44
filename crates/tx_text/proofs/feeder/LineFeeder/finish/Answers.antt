use Rattle.std.proofs.Common.{rules}
use Rattle.tx_text.proofs.feeder.LineFeeder.finish.Goals as goal

pub returns-clause-gives : goal.returns-clause-gives
returns-clause-gives c = search rules
