use Rattle.tx_text.proofs.Putting.{puts_then}
use Rattle.tx_risk_report.proofs.cut_lines.write_walk.Goals as goal

pub returns : goal.returns
returns g c =
    puts_then c.put_bytes.ensures (puts_then (rw c.code_figures.ensures.value at c.put_bytes-2.ensures) (puts_then c.put_bytes-3.ensures
    (puts_then (rw c.exchange_name-start.ensures.value at c.put_bytes-4.ensures) (puts_then c.put_bytes-5.ensures
    (puts_then (rw c.exchange_name-start.ensures.value at c.put_bytes-6.ensures) (puts_then c.write_steps.ensures c.put_bytes-7.ensures))))))
