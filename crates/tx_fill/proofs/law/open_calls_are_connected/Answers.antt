use Rattle.tx_fill.proofs.Connected.{all_connected}
use Rattle.tx_fill.proofs.law.open_calls_are_connected.Goals as goal

pub returns : goal.returns
returns c = λ p down x d ok. all_connected p ok down x d
