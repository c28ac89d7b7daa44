use Rattle.tx_html.proofs.Showing.{sets_then, sets_end}
use Rattle.tx_page.proofs.network.write_exchange.Goals as goal

pub returns : goal.returns
returns g c =
    sets_then (rw c.exchange_name.ensures.value at c.set.ensures) (sets_end c.write_codes.ensures c.set-2.ensures)
