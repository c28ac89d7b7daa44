use Rattle.tx_html.proofs.Showing.{sets_then}
use Rattle.tx_page.proofs.findings.write_short.Goals as goal

pub returns : goal.returns
returns g c =
    sets_then (rw (c.code_figures.ensures.value, c.exchange_name.ensures.value, c.list-list.ensures.value, c.end-end.ensures, c.from.ensures) at c.set.ensures) ((rw (c.list-list.ensures.value, c.end-end.ensures) at c.write_walk.ensures))
