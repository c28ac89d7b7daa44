use Rattle.tx_join.proofs.OldCertified.{certified}
use Rattle.tx_join.proofs.law.old_plan_is_certified.Goals as goal

pub returns : goal.returns
returns c = certified
