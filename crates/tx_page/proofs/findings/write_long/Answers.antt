use Rattle.tx_html.proofs.Showing.{sets_then}
use Rattle.tx_page.proofs.findings.write_long.Goals as goal

pub returns : goal.returns
returns g c =
    sets_then (rw (c.code_figures.ensures.value, c.exchange_name.ensures.value, c.exchange_name-2.ensures.value, c.end.ensures, c.home.ensures, c.steps_of.ensures) at c.set.ensures) c.write_walk.ensures
