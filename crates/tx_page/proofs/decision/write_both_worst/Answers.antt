use Rattle.tx_html.proofs.Showing.{sets_then}
use Rattle.tx_page.proofs.decision.write_both_worst.Goals as goal

pub returns : goal.returns
returns g c =
    sets_then c.write_label.ensures (sets_then (rw c.worst_of.ensures at c.write_worst.ensures)
    (sets_then (rw c.worst_of-2.ensures at c.write_worst-2.ensures)
    (sets_then c.set.ensures (rw (c.requires.old, c.requires.new) at c.write_measure.ensures))))
