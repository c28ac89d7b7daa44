use Rattle.tx_html.proofs.Showing.{sets_then}
use Rattle.tx_page_change.proofs.change.write_steps.Goals as goal

pub returns : goal.returns
returns g c = sets_then c.set.ensures (sets_then c.write_before.ensures (sets_then c.write_switching.ensures c.write_after.ensures))
