use Rattle.std.proofs.Common.{rules}
use Rattle.tx_text.proofs.memory_source.MemorySourceSource.read.Goals as goal

pub returns-then-self-clause-call : goal.returns-then-self-clause-call
returns-then-self-clause-call c = search rules
