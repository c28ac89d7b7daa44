use Rattle.tx_machine.proofs.Sound.{suffice_in}
use Rattle.tx_machine.proofs.headline.spare_groups_suffice.Goals as goal

pub returns : goal.returns
returns c = λ p ranks limit spare ok cert. suffice_in p ok ranks limit spare cert
