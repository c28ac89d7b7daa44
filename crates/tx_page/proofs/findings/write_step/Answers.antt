use Rattle.tx_html.proofs.Showing.{sets_then, sets_end}
use Rattle.tx_page.proofs.findings.write_step.Goals as goal

pub returns : goal.returns
returns g c =
    sets_then (rw (c.exchange_name.ensures.value, c.group_name.ensures.value) at c.set.ensures) (sets_end (rw (c.listed_before.ensures, c.list.ensures.value) at c.write_full.ensures) c.set-2.ensures)
