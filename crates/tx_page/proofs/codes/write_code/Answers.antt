use Rattle.tx_html.proofs.Showing.{sets_then}
use Rattle.tx_page.proofs.codes.write_code.Goals as goal

pub returns : goal.returns
returns g c =
    sets_then c.write_figures.ensures (rw (c.exchange_name.ensures.value, c.home.ensures, c.lines_of.ensures) at c.set.ensures)
