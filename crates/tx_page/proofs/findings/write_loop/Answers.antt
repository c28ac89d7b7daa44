use Rattle.tx_html.proofs.Showing.{sets_then}
use Rattle.tx_page.proofs.findings.write_loop.Goals as goal

pub returns : goal.returns
returns g c =
    sets_then (rw (c.code_figures.ensures.value, c.exchange_name.ensures.value, c.end.ensures) at c.set.ensures) c.write_walk.ensures
