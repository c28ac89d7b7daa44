use Rattle.std.proofs.Common.{rules}
use Rattle.tx_text.proofs.frame.is_end.Goals as goal

pub returns-then-eq : goal.returns-then-eq
returns-then-eq c = search rules
