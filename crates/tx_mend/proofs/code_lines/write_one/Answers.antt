use Rattle.tx_text.proofs.Putting.{puts_then}
use Rattle.tx_mend.proofs.code_lines.write_one.Goals as goal

pub returns : goal.returns
returns g c =
    puts_then c.put_bytes.ensures (puts_then (rw c.exchange_name.ensures.value at c.put_bytes-2.ensures)
    (puts_then c.put_bytes-3.ensures (rw (c.as_bytes.ensures.value, c.format.ensures.text) at c.put_bytes-4.ensures)))
