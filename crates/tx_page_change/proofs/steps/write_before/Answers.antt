use Rattle.tx_html.proofs.Showing.{sets_then, sets_end}
use Rattle.tx_page_change.proofs.steps.write_before.Goals as goal

pub returns : goal.returns
returns g c = sets_then c.set.ensures (sets_then c.write_put.ensures (sets_then c.set-2.ensures (sets_end c.write_table.ensures c.set-3.ensures)))
