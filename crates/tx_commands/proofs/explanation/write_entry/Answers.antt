use Rattle.tx_commands.proofs.Common.{some, some_last, puts_wrote}
use Rattle.tx_commands.proofs.explanation.write_entry.Goals as goal

pub returns : goal.returns
returns g c =
    puts_wrote _ (some_last _ _ some)
    (rw (c.as_bytes.ensures.value, c.as_bytes-2.ensures.value, c.as_bytes-3.ensures.value, c.as_bytes-4.ensures.value) at c.put_parts.ensures)
    c.finish.ensures
