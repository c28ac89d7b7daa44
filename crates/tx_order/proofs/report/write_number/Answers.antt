use Rattle.std.proofs.Common.{arith}
use Rattle.tx_order.proofs.report.write_number.Goals as goal

pub overflow_add-stage : goal.overflow_add-stage
overflow_add-stage g c = let few = c.rules.ensures.few in let h = c.requires in omega arith

pub returns : goal.returns
returns g c = rw (c.as_bytes-number.ensures.value, c.format.ensures.text) at c.put_parts.ensures
