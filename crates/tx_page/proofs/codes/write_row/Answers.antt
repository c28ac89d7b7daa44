use Rattle.tx_html.proofs.Showing.{sets_then}
use Rattle.tx_page.proofs.codes.write_row.Goals as goal

pub returns : goal.returns
returns g c =
    sets_then c.write_code.ensures c.write_bounds.ensures
