use Rattle.tx_html.proofs.Showing.{sets_then, sets_end}
use Rattle.tx_page.proofs.codes.write_codes.Goals as goal

pub returns : goal.returns
returns g c =
    sets_then c.set.ensures (sets_end (rw c.deref.ensures.value at c.write_rows.ensures) c.set-2.ensures)
