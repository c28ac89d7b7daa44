use Rattle.tx_html.proofs.Showing.{sets_then}
use Rattle.tx_page.proofs.decision.write_sources.Goals as goal

pub returns : goal.returns
returns g c =
    sets_then c.write_figures.ensures (sets_then c.write_figures-2.ensures
    (sets_then c.write_date.ensures c.write_version.ensures))
