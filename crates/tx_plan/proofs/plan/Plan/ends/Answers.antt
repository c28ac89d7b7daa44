use Rattle.std.proofs.Common.{rules}
use Rattle.tx_plan.proofs.plan.Plan.ends.Goals as goal

pub returns-in-Some : goal.returns-in-Some
returns-in-Some c = search rules
