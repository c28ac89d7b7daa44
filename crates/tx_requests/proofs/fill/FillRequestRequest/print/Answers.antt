use Rattle.tx_requests.proofs.fill.FillRequestRequest.print.Goals as goal

pub returns : goal.returns
returns g c = rw c.deref.ensures.value at c.write_fill.ensures
