use Rattle.tx_script.proofs.Common.{some, puts_wrote, puts_none, puts_then}
use Rattle.tx_script.proofs.ending.write_last_lines.Goals as goal
use Rattle.tx_script.proofs.ending.write_last_lines.Goals.{in-Some, in_default}

pub returns : goal.returns
returns g c =
    puts_wrote _ some (puts_then c.write_end.ensures (elim c.match-counts.branch [
      | in-Some w ↦ rw (w.in-Some.is, w.sink-is) w.write_summary.ensures
      | in_default w ↦ rw (w.in_default.is, w.sink-is) puts_none
    ])) c.finish.ensures
