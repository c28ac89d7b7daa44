use Rattle.tx_lint.proofs.NoneLost.{none_is_lost}
use Rattle.tx_lint.proofs.law.no_fault_is_lost.Goals as goal

pub returns : goal.returns
returns c = none_is_lost
