use Rattle.tx_files.proofs.Common.{some, puts_wrote, puts_then}
use Rattle.tx_files.proofs.fault_line.write_missing.Goals as goal

pub returns : goal.returns
returns g c =
    puts_wrote _ some (puts_then (rw c.word.ensures at c.put_parts.ensures) c.put_hint.ensures)
    c.finish.ensures
