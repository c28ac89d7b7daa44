use Rattle.tx_requests.proofs.order.OrderRequestRequest.print.Goals as goal

pub returns : goal.returns
returns g c = rw c.word_of.ensures at c.write_order.ensures
