use Rattle.tx_requests.proofs.way_changes.changes_asked.Goals as goal

pub returns-in-Some : goal.returns-in-Some
returns-in-Some g c =
    rw c.in-Some.is
    (rw (c.as_bytes.ensures.value, c.as_bytes-in-Some.ensures.value) at c.changes_named.ensures)
