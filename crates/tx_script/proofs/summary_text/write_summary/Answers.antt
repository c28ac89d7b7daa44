use Rattle.tx_text.proofs.Putting.{puts_then}
use Rattle.tx_script.proofs.summary_text.write_summary.Goals as goal

pub returns : goal.returns
returns g c = puts_then c.write_ended.ensures (puts_then c.write_calls.ensures (puts_then c.write_peaks.ensures c.put_bytes.ensures))
