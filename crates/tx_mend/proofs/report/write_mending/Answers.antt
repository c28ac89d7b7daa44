use Rattle.tx_text.proofs.Writing.{some}
use Rattle.tx_text.proofs.Putting.{puts_wrote}
use Rattle.tx_mend.proofs.report.write_mending.Goals as goal
use Rattle.tx_mend.proofs.report.write_mending.Goals.{in-Mended, in-NoRouting}

pub returns : goal.returns
returns g c = elim c.match-mending.branch [
  | in-Mended w ↦ rw w.in-Mended.is (puts_wrote _ some (rw (← w.sink-is) at w.write_mended.ensures) c.finish.ensures)
  | in-NoRouting w ↦ rw (w.in-NoRouting.is, ← w.deref.ensures.value, ← w.deref-in-NoRouting.ensures.value) (puts_wrote _ some (rw (← w.sink-is) at w.write_unserved.ensures) c.finish.ensures)
]
