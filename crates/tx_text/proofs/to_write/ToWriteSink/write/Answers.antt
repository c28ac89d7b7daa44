use Rattle.std.proofs.Common.{rules}
use Rattle.tx_text.proofs.to_write.ToWriteSink.write.Goals as goal

pub returns-then-n-gt0-clause-some : goal.returns-then-n-gt0-clause-some
returns-then-n-gt0-clause-some g c = search rules
