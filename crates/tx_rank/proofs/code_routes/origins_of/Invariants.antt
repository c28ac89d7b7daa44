use Rattle.std.proofs.Common.{◌≤◌, length, vec_capacity}
use Rattle.tx_rank.proofs.Origins.{AreOriginsBelow}
use Rattle.tx_rank.proofs.code_routes.origins_of.Given as goal

abbrev pub invariant-loop-index : goal.invariant-loop-index
invariant-loop-index g l = record { so_far : AreOriginsBelow l.plan l.index l.origins.items; room : length l.plan.exchanges ≤ vec_capacity l.origins }
