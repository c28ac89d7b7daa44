use Rattle.tx_machine.proofs.Sound.{sound}
use Rattle.tx_plan.proofs.CommonRanks.{mixture_certified}
use Rattle.tx_machine.proofs.changing.common_ranks_certify.Goals as goal

pub returns : goal.returns
returns c = record {
  certified = λ old new ranks limit spare same both m mix. mixture_certified old new m ranks limit spare same both mix;
  sound = λ old new ranks limit spare same both m mix. sound m mix.rules ranks limit spare (mixture_certified old new m ranks limit spare same both mix);
}
