use Rattle.tx_machine.proofs.Sound.{ranks_fall_in}
use Rattle.tx_machine.proofs.headline.ranks_fall.Goals as goal

pub returns : goal.returns
returns c = λ p ranks limit spare ok cert. ranks_fall_in p ok ranks limit spare cert
