use Rattle.std.proofs.Common.{rules}
use Rattle.tx_text.proofs.name.is_name.Goals as goal

pub returns-then-are_signs-clause-short : goal.returns-then-are_signs-clause-short
returns-then-are_signs-clause-short c = search rules
