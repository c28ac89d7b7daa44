use Rattle.std.proofs.Common.{rules}
use Rattle.tx_rank.proofs.code_bounds.exchange_bounds.Goals as goal

pub returns-in-Some : goal.returns-in-Some
returns-in-Some g c = search rules
