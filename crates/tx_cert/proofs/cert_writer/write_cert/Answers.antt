use Rattle.tx_text.proofs.Writing.{some}
use Rattle.tx_text.proofs.Putting.{puts_wrote, puts_then}
use Rattle.tx_cert.proofs.cert_writer.write_cert.Goals as goal

pub returns : goal.returns
returns g c = puts_wrote _ some (puts_then c.put_bytes.ensures (puts_then c.write_ranks.ensures c.put_bytes-2.ensures)) c.finish.ensures
