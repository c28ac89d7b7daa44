use Rattle.std.proofs.Common.{rules}
use Rattle.tx_text.specs.Text.{bytes_fault}
use Rattle.tx_text.proofs.reader.bytes_fault.Goals as goal

pub returns-then-line-gt512 : goal.returns-then-line-gt512
unfolding bytes_fault
returns-then-line-gt512 c = search rules
