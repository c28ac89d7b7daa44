use Rattle.tx_text.proofs.Putting.{puts_then}
use Rattle.tx_mend.proofs.report.write_mended.Goals as goal

pub returns : goal.returns
returns g c =
    puts_then c.write_asked.ensures (puts_then c.write_changes.ensures c.put_bytes.ensures)
