use Rattle.tx_html.proofs.Showing.{sets_then, sets_end}
use Rattle.tx_svg.proofs.rows_printed.write_lists.Goals as goal

pub returns : goal.returns
returns g c =
    sets_then (rw c.code_figures.ensures.value at c.set.ensures) (sets_end c.write_rows.ensures c.set-2.ensures)
