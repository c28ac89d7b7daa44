use Rattle.tx_html.proofs.Showing.{sets_then}
use Rattle.tx_page_change.proofs.table.write_title.Goals as goal

pub returns : goal.returns
returns g c = sets_then c.set.ensures c.write_numbers.ensures
