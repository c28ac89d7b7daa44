use Rattle.tx_text.proofs.Writing.{some}
use Rattle.tx_text.proofs.Putting.{puts_wrote, puts_then}
use Rattle.tx_fill.proofs.fill_text.write_fill.Goals as goal

pub returns : goal.returns
returns g c =
    puts_wrote _ some
    (puts_then c.write_head.ensures (puts_then c.write_down.ensures (puts_then c.write_calls.ensures (puts_then c.write_next.ensures (rw c.deref.ensures.value at c.write_all_full.ensures))))) c.finish.ensures
