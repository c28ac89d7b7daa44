use Rattle.tx_mend.proofs.Changing.{least_change}
use Rattle.tx_mend.proofs.law.mending_changes_least.Goals as goal

pub returns : goal.returns
returns c = least_change
