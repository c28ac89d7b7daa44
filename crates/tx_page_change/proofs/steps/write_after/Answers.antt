use Rattle.tx_html.proofs.Showing.{sets_then, sets_end}
use Rattle.tx_page_change.proofs.steps.write_after.Goals as goal

pub returns : goal.returns
returns g c = sets_then c.set.ensures (sets_then c.write_gone.ensures (sets_then c.set-2.ensures (sets_then c.write_table.ensures (sets_then c.set-3.ensures (sets_end c.write_opened.ensures c.set-4.ensures)))))
