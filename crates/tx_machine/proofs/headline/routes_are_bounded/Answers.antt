use Rattle.tx_machine.proofs.Counts.{few_routes}
use Rattle.tx_machine.proofs.headline.routes_are_bounded.Goals as goal

pub returns : goal.returns
returns c = λ p ranks limit spare ok cert. few_routes p ok ranks limit spare cert
