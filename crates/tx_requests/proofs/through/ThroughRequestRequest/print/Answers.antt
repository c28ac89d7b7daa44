use Rattle.tx_requests.proofs.through.ThroughRequestRequest.print.Goals as goal

pub write_through-requires : goal.write_through-requires
write_through-requires g c = rw c.deref-2.ensures.value c.requires.2.2

pub returns : goal.returns
returns g c = rw c.deref.ensures.value at c.write_through.ensures
