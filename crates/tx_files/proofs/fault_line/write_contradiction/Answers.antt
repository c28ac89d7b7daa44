use Rattle.tx_files.proofs.Common.{some, puts_wrote, puts_then}
use Rattle.tx_files.proofs.fault_line.write_contradiction.Goals as goal

pub returns : goal.returns
returns g c = puts_wrote _ some (puts_then (rw (c.word-word.ensures, c.bytes.ensures.value) at c.write_differing.ensures) c.write_homes.ensures) c.finish.ensures
