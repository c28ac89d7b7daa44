use Rattle.std.proofs.Common.{rules}
use Rattle.tx_plan.proofs.plan.Plan.is_origin_for.Goals as goal

pub returns-then-is_origin : goal.returns-then-is_origin
returns-then-is_origin c = search rules

pub returns-else-is_origin : goal.returns-else-is_origin
returns-else-is_origin c = search rules
