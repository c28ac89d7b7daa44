use Rattle.tx_machine.proofs.Common.{◌∙◌, is_free_at}
use Rattle.tx_machine.proofs.Choosing.{down_less}
use Rattle.tx_machine.proofs.plain.Plain.first_down.Goals as goal

pub loop-n-preserved : goal.loop-n-preserved
loop-n-preserved g c = c.loop-n.invariant ∙ down_less (is_free_at c.args.self.now.plan c.args.self.now.state c.args.exchange) c.args.group c.loop-n.n c.is_free.result c.loop-n-test.true c.is_free.ensures c.if-is_free.false
