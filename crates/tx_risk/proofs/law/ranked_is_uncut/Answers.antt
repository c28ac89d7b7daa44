use Rattle.tx_risk.proofs.Ways.{ranked_uncut}
use Rattle.tx_risk.proofs.law.ranked_is_uncut.Goals as goal

pub returns : goal.returns
returns c = λ p ranks limit spare ok cert risk code x within leaves o. ranked_uncut p risk code
    ranks limit spare cert within leaves x o
