use Rattle.tx_html.proofs.Showing.{sets_then}
use Rattle.tx_page.proofs.outages.write_graded.Goals as goal

pub returns : goal.returns
returns g c =
    sets_then c.write_tried.ensures (sets_then c.write_unknown.ensures c.write_outcomes.ensures)
