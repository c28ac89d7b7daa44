use Rattle.tx_text.proofs.Writing.{some, some_last}
use Rattle.tx_text.proofs.Putting.{puts_wrote}
use Rattle.tx_script.proofs.EventLines.{events_back}
use Rattle.tx_script.proofs.event_text.write_event.Goals as goal

pub returns-clause-says : goal.returns-clause-says
returns-clause-says g c = events_back c.args.plan.now c.args.event.now c.rules.ensures c.requires

pub returns-clause-wrote : goal.returns-clause-wrote
returns-clause-wrote g c = puts_wrote _ (some_last _ _ some) c.write_any_event.ensures c.finish.ensures
