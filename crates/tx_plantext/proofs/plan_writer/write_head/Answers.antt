use Rattle.std.proofs.Common.{rules}
use Rattle.tx_plantext.proofs.plan_writer.write_head.Goals as goal

pub returns-else-bars : goal.returns-else-bars
returns-else-bars g c = search rules
