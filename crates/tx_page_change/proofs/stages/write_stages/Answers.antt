use Rattle.tx_html.proofs.Showing.{sets_then}
use Rattle.tx_page_change.proofs.stages.write_stages.Goals as goal

pub returns : goal.returns
returns g c = sets_then (rw c.order_word.ensures at c.set.ensures) c.write_all.ensures
