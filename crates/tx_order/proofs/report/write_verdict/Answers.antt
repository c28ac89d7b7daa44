use Rattle.tx_order.proofs.report.write_verdict.Goals as goal

pub returns-in-Ordered : goal.returns-in-Ordered
returns-in-Ordered g c = rw c.in-Ordered.is c.put_bytes.ensures

pub returns-in-NoOrder : goal.returns-in-NoOrder
returns-in-NoOrder g c = rw c.in-NoOrder.is c.write_no_order.ensures

pub returns-in-NewUnsound : goal.returns-in-NewUnsound
returns-in-NewUnsound g c = rw (c.in-NewUnsound.is, ← c.deref.ensures.value) c.write_verdict_after.ensures
