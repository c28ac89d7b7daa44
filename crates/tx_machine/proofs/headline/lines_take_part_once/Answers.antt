use Rattle.tx_machine.proofs.Sound.{part_once_in}
use Rattle.tx_machine.proofs.headline.lines_take_part_once.Goals as goal

pub returns : goal.returns
returns c = λ p ok. part_once_in p ok
