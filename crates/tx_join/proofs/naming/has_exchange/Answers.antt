use Rattle.std.proofs.Common.{sym}
use Rattle.tx_plan.proofs.Absent.{has_exchange-is}
use Rattle.tx_join.proofs.naming.has_exchange.Goals as goal

pub returns : goal.returns
returns g c = sym (has_exchange-is c.args.plan.now c.args.name.now c.exchange_named.result c.is_some.result c.exchange_named.ensures c.is_some.ensures)
