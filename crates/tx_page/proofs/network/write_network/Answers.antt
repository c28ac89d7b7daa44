use Rattle.tx_html.proofs.Showing.{sets_then, sets_end}
use Rattle.tx_page.proofs.network.write_network.Goals as goal

pub returns : goal.returns
returns g c =
    sets_then c.set.ensures (sets_then c.write_ring.ensures (sets_then c.set-2.ensures (sets_then c.write_exchanges.ensures (sets_then c.set-3.ensures (sets_end c.write_groups.ensures c.set-4.ensures)))))
