use Rattle.tx_page_change.proofs.Common.{sets_then, sets_end}
use Rattle.tx_page_change.proofs.stages.write_stage.Goals as goal

pub returns : goal.returns
returns g c =
    sets_then c.set.ensures (sets_end (rw c.new_plan.ensures at c.write_table.ensures) c.set-2.ensures)
