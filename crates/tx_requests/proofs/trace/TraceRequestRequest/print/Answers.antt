use Rattle.tx_requests.proofs.trace.TraceRequestRequest.print.Goals as goal

pub write_trace-requires : goal.write_trace-requires
write_trace-requires g c = c.requires.2.2

pub returns : goal.returns
returns g c = rw c.deref.ensures.value at c.write_trace.ensures
