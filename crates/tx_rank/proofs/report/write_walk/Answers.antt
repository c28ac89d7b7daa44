use Rattle.tx_text.proofs.Putting.{puts_then}
use Rattle.tx_rank.proofs.report.write_walk.Goals as goal

pub returns : goal.returns
returns g c =
    rw (← c.walk.view_is)
    (puts_then c.put_bytes.ensures (puts_then (rw c.code_figures.ensures.value at c.put_bytes-2.ensures) (puts_then c.put_bytes-3.ensures
    (puts_then (rw c.exchange_name.ensures.value at c.put_bytes-4.ensures) (rw c.deref.ensures.value at c.write_steps.ensures)))))
