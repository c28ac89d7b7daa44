use Rattle.tx_join.proofs.OneNetwork.{one_network}
use Rattle.tx_join.proofs.law.plans_of_one_network_stay.Goals as goal

pub returns : goal.returns
returns c = one_network
