use Rattle.std.proofs.Common.{length}
use Rattle.tx_plan.proofs.routes.+none_twice.Given as goal

abbrev pub decreases-none_twice : goal.decreases-none_twice
decreases-none_twice l = length l.groups.now
