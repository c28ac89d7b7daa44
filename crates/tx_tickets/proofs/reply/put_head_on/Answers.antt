use Rattle.std.proofs.Common.{arith}
use Rattle.std.proofs.lemmas.Grind.{common_steps}
use Rattle.tx_tickets.proofs.reply.put_head_on.Goals as goal

pub returns : goal.returns
returns c = grind (arith, common_steps)
