use Rattle.std.proofs.Common.{◌≤◌, length, vec_capacity}
use Rattle.tx_rank.proofs.Marking.{AreOriginsBefore}
use Rattle.tx_rank.proofs.reaching.starts.Given as goal

abbrev pub invariant-loop-index : goal.invariant-loop-index
invariant-loop-index g l = record { so_far : AreOriginsBefore l.plan l.code l.index l.marks.items; room : length l.plan.exchanges ≤ vec_capacity l.marks }
