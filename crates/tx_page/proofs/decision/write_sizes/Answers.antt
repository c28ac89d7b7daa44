use Rattle.tx_html.proofs.Showing.{sets_then}
use Rattle.tx_page.proofs.decision.write_sizes.Goals as goal

pub returns : goal.returns
returns g c =
    sets_then c.set.ensures
    (sets_then (rw (c.exchanges.ensures.count, c.exchanges-2.ensures.count) at c.write_pair.ensures)
    (sets_then (rw (c.codes.ensures.count, c.codes-2.ensures.count) at c.write_pair-2.ensures)
    (sets_then (rw (c.groups.ensures.count, c.groups-2.ensures.count) at c.write_pair-3.ensures)
    (sets_then (rw (c.count_circuits.ensures, c.count_circuits-2.ensures) at c.write_pair-4.ensures)
    (sets_then (rw (c.routes.ensures.count, c.routes-2.ensures.count) at c.write_pair-5.ensures)
    (sets_then (rw (c.count_lines.ensures, c.count_lines-2.ensures) at c.write_pair-6.ensures)
    (rw (c.count_origins.ensures, c.count_origins-2.ensures) at c.write_pair-7.ensures)))))))
