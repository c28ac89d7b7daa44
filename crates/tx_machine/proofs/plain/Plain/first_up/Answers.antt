use Rattle.tx_machine.proofs.Common.{sym, arith, is_free_at}
use Rattle.tx_machine.proofs.Choosing.{up_more, up_found}
use Rattle.tx_machine.proofs.plain.Plain.first_up.Goals as goal

pub returns-then-is_free : goal.returns-then-is_free
returns-then-is_free g c = sym (up_found (is_free_at c.args.self.now.plan c.args.self.now.state c.args.exchange) c.args.group c.args.count c.loop-n.n c.is_free.result c.loop-n-test.true c.loop-n.invariant.1 c.is_free.ensures c.if-is_free.true)

pub loop-n-preserved : goal.loop-n-preserved
loop-n-preserved g c = (omega arith, up_more (is_free_at c.args.self.now.plan c.args.self.now.state c.args.exchange) c.args.group c.loop-n.n c.is_free.result c.loop-n.invariant.1 c.is_free.ensures c.if-is_free.false)
