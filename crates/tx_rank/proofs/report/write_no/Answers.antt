use Rattle.tx_rank.proofs.report.write_no.Goals as goal

pub returns : goal.returns
returns g c = rw (c.as_bytes-count.ensures.value, c.format.ensures.text) at c.put_parts.ensures
