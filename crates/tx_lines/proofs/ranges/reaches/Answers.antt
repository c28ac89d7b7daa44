use Rattle.std.proofs.Common.{rules}
use Rattle.tx_lines.proofs.ranges.reaches.Goals as goal

pub returns-then-number-bytes : goal.returns-then-number-bytes
returns-then-number-bytes c = search rules
