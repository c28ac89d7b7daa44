use Rattle.tx_html.proofs.Showing.{sets_then, sets_end}
use Rattle.tx_page.proofs.findings.write_walk.Goals as goal

pub returns : goal.returns
returns g c =
    sets_then c.set.ensures (sets_then (rw (c.start_of.ensures, c.steps_of.ensures) at c.write_steps.ensures) (sets_end c.write_full.ensures c.set-2.ensures))
