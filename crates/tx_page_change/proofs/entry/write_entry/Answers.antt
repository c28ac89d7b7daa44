use Rattle.tx_html.proofs.Showing.{sets_then}
use Rattle.tx_page_change.proofs.entry.write_entry.Goals as goal

pub returns : goal.returns
returns g c =
    sets_then (rw (c.exchange_name.ensures.value, c.code_figures.ensures.value) at c.set.ensures) (sets_then c.write_groups.ensures (sets_then c.set-2.ensures (sets_then c.write_groups-2.ensures (rw c.bar_word.ensures at c.write_bar.ensures))))
