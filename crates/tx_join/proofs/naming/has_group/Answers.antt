use Rattle.std.proofs.Common.{sym}
use Rattle.tx_plan.proofs.Absent.{has_group-is}
use Rattle.tx_join.proofs.naming.has_group.Goals as goal

pub returns : goal.returns
returns g c = sym (has_group-is c.args.plan.now c.args.name.now c.group_named.result c.is_some.result c.group_named.ensures c.is_some.ensures)
