use Rattle.tx_html.proofs.Showing.{sets_then}
use Rattle.tx_page_change.proofs.rows.write_measure.Goals as goal

pub returns : goal.returns
returns g c =
    sets_then c.write_label.ensures (sets_then c.write_number.ensures (sets_then c.write_number-2.ensures
    (rw (c.is_worse_number-worse.ensures, c.is_worse_number.ensures) at c.write_stand.ensures)))
