use Rattle.tx_risk.proofs.Ways.{uncut_served, served_uncut}
use Rattle.tx_risk.proofs.law.uncut_is_served.Goals as goal

pub returns : goal.returns
returns c = record {
  served = λ p ranks limit spare ok cert risk code x within origin u. uncut_served p risk code ranks
      limit spare cert within x origin u;
  uncut = λ p risk code x s. served_uncut p risk code x s;
}
