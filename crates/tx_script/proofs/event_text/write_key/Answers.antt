use Rattle.std.proofs.Common.{append_assoc}
use Rattle.tx_script.proofs.event_text.write_key.Goals as goal

pub returns-clause-puts : goal.returns-clause-puts
returns-clause-puts g c = rw (← c.code_figures.ensures.value, ← c.bytes.ensures.value, ← c.bytes-2.ensures.value, append_assoc) c.put_parts.ensures
