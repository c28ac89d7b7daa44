use Rattle.tx_order.proofs.report.write_found.Goals as goal

pub returns-in-Ordered : goal.returns-in-Ordered
returns-in-Ordered g c = rw c.in-Ordered.is c.write_stages.ensures
