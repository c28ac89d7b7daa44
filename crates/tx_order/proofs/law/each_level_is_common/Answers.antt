use Rattle.tx_order.proofs.OnTheWay.{falling_common, rising_common}
use Rattle.tx_order.proofs.law.each_level_is_common.Goals as goal

pub returns : goal.returns
returns c = record {
  falling = λ old new before after limit spare level both w. falling_common old new before after limit spare both level w;
  rising = λ old new before after limit spare level both w. rising_common old new before after limit spare both level w;
}
