use Rattle.tx_html.proofs.Showing.{sets_then, sets_end}
use Rattle.tx_page.proofs.findings.write_findings.Goals as goal

pub returns : goal.returns
returns g c =
    sets_then c.set.ensures (sets_end c.write_all.ensures c.set-2.ensures)
