use Rattle.std.proofs.Common.{rules}
use Rattle.tx_text.proofs.memory_sink.MemorySinkSink.write.Goals as goal

pub returns-clause-some : goal.returns-clause-some
returns-clause-some g c = search rules
