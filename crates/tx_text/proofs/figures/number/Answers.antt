use Rattle.std.proofs.Common.{rules}
use Rattle.tx_text.proofs.figures.number.Goals as goal

pub returns : goal.returns
returns c = search rules
