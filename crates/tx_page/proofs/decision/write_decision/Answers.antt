use Rattle.tx_html.proofs.Showing.{sets_then}
use Rattle.tx_page.proofs.decision.write_decision.Goals as goal

pub returns : goal.returns
returns g c =
    sets_then c.write_start.ensures (sets_then c.write_replaced.ensures
    (sets_then (rw c.count_lines.ensures at c.write_warning.ensures) (sets_then c.write_verdict.ensures
    (sets_then c.write_promise.ensures (sets_then (rw c.is_worse_in-worse.ensures at c.write_summary.ensures)
    (sets_then c.write_compared.ensures c.write_sources.ensures))))))
