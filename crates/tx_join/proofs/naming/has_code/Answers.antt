use Rattle.std.proofs.Common.{sym}
use Rattle.tx_plan.proofs.Absent.{has_code-is}
use Rattle.tx_join.proofs.naming.has_code.Goals as goal

pub returns : goal.returns
returns g c = sym (has_code-is c.args.plan.now c.args.figures.now c.code_named.result c.is_some.result c.code_named.ensures c.is_some.ensures)
