use Rattle.tx_machine.proofs.Appending.{appends}
use Rattle.tx_machine.proofs.headline.tickets_are_appended.Goals as goal

pub returns : goal.returns
returns c = appends
