use Rattle.std.proofs.Common.{rules}
use Rattle.tx_plan.proofs.builder.PlanBuilder.finish.Goals as goal

pub returns : goal.returns
returns c = search rules
