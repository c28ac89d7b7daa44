use Rattle.tx_html.proofs.Showing.{sets_then}
use Rattle.tx_page.proofs.heading.write_heading.Goals as goal

pub returns : goal.returns
returns g c =
    sets_then c.write_start.ensures (sets_then c.write_counts.ensures (sets_then (rw c.count_lines.ensures at c.write_warning.ensures) (sets_then c.write_digest.ensures (sets_then c.write_verdict.ensures c.write_promise.ensures))))
