use Rattle.tx_machine.proofs.Sound.{carried_once_in}
use Rattle.tx_machine.proofs.headline.hops_join_and_carry_once.Goals as goal

pub returns : goal.returns
returns c = λ p ok. carried_once_in p ok
