use Rattle.std.proofs.Common.{rules}
use Rattle.tx_text.specs.Text.{without_cr}
use Rattle.tx_text.proofs.reader.without_cr.Goals as goal

pub returns-then-line-len-eq13 : goal.returns-then-line-len-eq13
unfolding without_cr
returns-then-line-len-eq13 c = search rules
