use Rattle.tx_trace.proofs.Common.{some, puts_wrote, puts_then}
use Rattle.tx_trace.proofs.through_text.write_through.Goals as goal

pub returns : goal.returns
returns g c =
    puts_wrote _ some
    (puts_then c.put_bytes.ensures (puts_then (rw c.name_of.ensures at c.put_bytes-2.ensures)
    (puts_then c.put_bytes-3.ensures (puts_then c.write_down.ensures (rw c.requires at c.write_calls.ensures))))) c.finish.ensures
