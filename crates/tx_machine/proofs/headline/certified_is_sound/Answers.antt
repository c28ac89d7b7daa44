use Rattle.tx_machine.proofs.Sound.{sound}
use Rattle.tx_machine.proofs.Counts.{few_routes}
use Rattle.tx_machine.proofs.headline.certified_is_sound.Goals as goal

pub returns : goal.returns
returns c = record {
  sound = λ p ranks limit spare ok cert. sound p ok ranks limit spare cert;
  few_routes = λ p ranks limit spare ok cert. few_routes p ok ranks limit spare cert;
}
