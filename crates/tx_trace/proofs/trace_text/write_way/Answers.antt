use Rattle.tx_text.proofs.Putting.{puts_then}
use Rattle.tx_trace.proofs.trace_text.write_way.Goals as goal

pub returns : goal.returns
returns g c = puts_then c.put_bytes.ensures (puts_then (rw c.exchange_name.ensures.value at c.put_bytes-2.ensures) c.write_steps.ensures)
