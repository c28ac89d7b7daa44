use Rattle.std.proofs.Common.{rules}
use Rattle.tx_text.proofs.feeder.LineFeeder.line.Goals as goal

pub returns-clause-line : goal.returns-clause-line
returns-clause-line c = search rules
