use Rattle.tx_html.proofs.Showing.{sets_then}
use Rattle.tx_page.proofs.heading.write_digest.Goals as goal

pub returns : goal.returns
returns g c = sets_then c.write_figures.ensures c.write_version.ensures
