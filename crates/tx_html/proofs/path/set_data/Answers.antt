use Rattle.tx_html.proofs.Showing.{sets_then}
use Rattle.tx_html.proofs.path.set_data.Goals as goal

pub returns : goal.returns
returns g c =
    sets_then c.set_own.ensures (sets_then c.set_segments.ensures c.set_own-2.ensures)
