use Rattle.tx_page_change.proofs.Common.{arith}
use Rattle.tx_page_change.proofs.table.write_stage.Goals as goal

pub overflow_add-stage : goal.overflow_add-stage
overflow_add-stage g c = let few = c.rules.ensures.few in let h = c.requires in omega arith

pub returns : goal.returns
returns g c = rw c.stages.ensures at c.set.ensures
