use Rattle.tx_order.proofs.Ordered.{fewest}
use Rattle.tx_order.proofs.law.stages_are_fewest.Goals as goal

pub returns : goal.returns
returns c = λ w code ends fronts count a first last within safe. fewest w code ends a fronts count first within safe last
