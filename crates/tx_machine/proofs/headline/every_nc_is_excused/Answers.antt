use Rattle.tx_machine.proofs.Sound.{excused_in}
use Rattle.tx_machine.proofs.headline.every_nc_is_excused.Goals as goal

pub returns : goal.returns
returns c = λ p ranks limit spare ok cert. excused_in p ok ranks limit spare cert
