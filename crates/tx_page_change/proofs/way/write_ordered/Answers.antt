use Rattle.tx_html.proofs.Showing.{sets_then}
use Rattle.tx_page_change.proofs.way.write_ordered.Goals as goal

pub returns : goal.returns
returns g c =
    sets_then (rw (c.stages.ensures, c.lists_differing-put.ensures) at c.set.ensures)
    (sets_then c.write_stages.ensures c.write_gone.ensures)
