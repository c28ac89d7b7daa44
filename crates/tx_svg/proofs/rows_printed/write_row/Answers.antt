use Rattle.tx_html.proofs.Showing.{sets_then, sets_end}
use Rattle.tx_svg.proofs.rows_printed.write_row.Goals as goal

pub returns : goal.returns
returns g c =
    sets_then (rw c.exchange_name.ensures.value at c.set.ensures) (sets_then (rw c.rank_in.ensures at c.write_rank.ensures)
    (sets_then c.set-2.ensures (sets_end (rw c.list.ensures.value at c.write_groups.ensures) c.set-3.ensures)))
