use Rattle.tx_plan.proofs.Fronts.{stripped}
use Rattle.tx_machine.proofs.deciding.after.Goals as goal

pub returns : goal.returns
returns c = stripped (λ rest. rest.now) c.strip_prefix.result c.args.front.now c.args.text.now _ c.strip_prefix.ensures.cases
