use Rattle.tx_requests.proofs.auditing.end_after_no.Goals as goal

pub invariant_of-script : goal.invariant_of-script
invariant_of-script g c = record { writable = rw c.in-Some.is at c.in_ok-events.ensures.writable }

pub returns-then-not-asked : goal.returns-then-not-asked
returns-then-not-asked g c = rw c.if-not-asked.true (c.of.ensures.status, c.of.ensures.made)
