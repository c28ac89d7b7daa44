use Rattle.tx_machine.proofs.ChangingRuns.{sound_change, few_meanwhile, suffice_meanwhile}
use Rattle.tx_machine.proofs.changing.live_change_is_sound.Goals as goal

pub returns : goal.returns
returns c = record {
  sound = λ old new ranks limit spare same both. sound_change old new ranks limit spare same both;
  few_routes = λ old new ranks limit spare same both. few_meanwhile old new ranks limit spare same both;
  suffice = λ old new ranks limit spare same both. suffice_meanwhile old new ranks limit spare same both;
}
