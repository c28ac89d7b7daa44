use Rattle.tx_mend.proofs.TrueCauses.{causes}
use Rattle.tx_mend.proofs.law.causes_are_true.Goals as goal

pub returns : goal.returns
returns c = causes
