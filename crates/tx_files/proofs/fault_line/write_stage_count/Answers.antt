use Rattle.tx_files.proofs.Common.{some, puts_wrote}
use Rattle.tx_files.proofs.fault_line.write_stage_count.Goals as goal

pub returns : goal.returns
returns g c =
    puts_wrote _ some
    (rw (c.as_bytes-stages.ensures.value, c.format.ensures.text) at c.put_parts.ensures)
    c.finish.ensures
