use Rattle.tx_html.proofs.Showing.{sets_then}
use Rattle.tx_page.proofs.decision.write_compared.Goals as goal

pub returns : goal.returns
returns g c =
    sets_then c.write_sizes.ensures (sets_then (rw (c.requires.old, c.requires.new) at c.write_measures.ensures)
    (sets_then c.write_both_worst.ensures (sets_then c.write_outcomes.ensures c.write_way.ensures)))
