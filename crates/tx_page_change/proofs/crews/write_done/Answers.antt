use Rattle.tx_html.proofs.Showing.{sets_then}
use Rattle.tx_page_change.proofs.crews.write_done.Goals as goal

pub returns : goal.returns
returns g c =
    sets_then c.write_title.ensures (sets_then (rw c.exchange_name.ensures.value at c.set.ensures) c.write_exchange_table.ensures)
