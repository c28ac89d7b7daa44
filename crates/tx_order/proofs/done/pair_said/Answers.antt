use Rattle.tx_order.proofs.Common.{sym}
use Rattle.tx_order.proofs.DoneLines.{wrong_count}
use Rattle.tx_order.proofs.done.pair_said.Goals as goal

pub returns-in-None : goal.returns-in-None
returns-in-None g c = sym (wrong_count c.args.order.now c.args.stage c.args.words c.in-None.ensures)
