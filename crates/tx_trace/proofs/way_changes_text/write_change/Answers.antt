use Rattle.tx_text.proofs.Putting.{puts_then}
use Rattle.tx_trace.proofs.way_changes_text.write_change.Goals as goal

pub returns : goal.returns
returns g c =
    puts_then c.write_head.ensures (puts_then (rw (c.deref.ensures.value, c.requires.0.first) at c.write_way.ensures)
    (puts_then c.write_was.ensures
    (puts_then (rw (c.deref-2.ensures.value, c.deref-3.ensures.value, c.requires.0.met, c.requires.1.met) at c.write_only.ensures)
    (rw (c.deref-4.ensures.value, c.deref-5.ensures.value, c.requires.0.met, c.requires.1.met) at c.write_only-2.ensures))))
