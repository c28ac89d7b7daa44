use Rattle.tx_html.proofs.Showing.{sets_then, sets_end}
use Rattle.tx_page_change.proofs.table.write_exchange_table.Goals as goal

pub returns : goal.returns
returns g c = sets_then c.set.ensures (sets_end c.write_exchange.ensures c.set-2.ensures)
