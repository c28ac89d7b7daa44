use Rattle.tx_html.proofs.Showing.{sets_then}
use Rattle.tx_html.proofs.part.set_value.Goals as goal

pub returns : goal.returns
returns g c =
    sets_then c.set_own.ensures (sets_then c.set_own-2.ensures (sets_then c.set_number.ensures c.set_own-3.ensures))
