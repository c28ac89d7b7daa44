use Rattle.tx_rank.proofs.report.write_asked.Goals as goal

pub returns : goal.returns
returns g c = rw (c.as_bytes-limit.ensures.value, c.format.ensures.text, c.as_bytes-spare.ensures.value, c.format-2.ensures.text) at c.put_parts.ensures
