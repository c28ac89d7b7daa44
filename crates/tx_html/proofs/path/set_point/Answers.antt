use Rattle.tx_html.proofs.Showing.{sets_then}
use Rattle.tx_html.proofs.path.set_point.Goals as goal

pub returns : goal.returns
returns g c =
    sets_then c.set_own.ensures (sets_then c.set_number.ensures (sets_then c.set_own-2.ensures c.set_number-2.ensures))
