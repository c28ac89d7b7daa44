use Rattle.tx_text.proofs.Writing.{some}
use Rattle.tx_text.proofs.Putting.{puts_wrote, puts_then}
use Rattle.tx_change.proofs.report.write_change.Goals as goal

pub returns : goal.returns
returns g c =
    puts_wrote _ some (puts_then c.write_asked.ensures (puts_then c.write_before.ensures (puts_then c.write_switched_lists.ensures (puts_then c.write_after.ensures (puts_then c.write_list_counts.ensures c.write_found.ensures))))) c.finish.ensures
