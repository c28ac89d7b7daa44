use Rattle.tx_html.proofs.Showing.{sets_then}
use Rattle.tx_page_change.proofs.rows.write_outcome.Goals as goal

pub returns : goal.returns
returns g c =
    sets_then c.write_label.ensures (sets_then c.set.ensures (sets_then c.write_number.ensures c.write_stand.ensures))
