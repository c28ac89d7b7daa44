use Rattle.tx_script.proofs.ending.write_end.Goals as goal

pub returns : goal.returns
returns g c = rw (c.as_bytes-events.ensures.value, c.format.ensures.text, c.as_bytes-calls.ensures.value, c.format-2.ensures.text) at c.put_parts.ensures
