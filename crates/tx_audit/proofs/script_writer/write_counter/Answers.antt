use Rattle.tx_text.proofs.Writing.{some}
use Rattle.tx_text.proofs.Putting.{puts_wrote, puts_then}
use Rattle.tx_audit.proofs.ReadBack.{scripts_back}
use Rattle.tx_audit.proofs.script_writer.write_counter.Goals as goal

pub returns-clause-wrote : goal.returns-clause-wrote
returns-clause-wrote g c = puts_wrote _ some (puts_then c.put_bytes.ensures (puts_then c.write_events.ensures c.put_bytes-2.ensures)) c.finish.ensures

pub returns-clause-says : goal.returns-clause-says
returns-clause-says g c = scripts_back c.args.plan.now c.rules.ensures c.args.events.now c.requires
