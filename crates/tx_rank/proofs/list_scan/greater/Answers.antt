use Rattle.std.proofs.Common.{rules}
use Rattle.tx_rank.proofs.list_scan.greater.Goals as goal

pub returns-then-a-b-clause-second : goal.returns-then-a-b-clause-second
returns-then-a-b-clause-second c = search rules
