use Rattle.std.proofs.Common.{◌≤◌, length, map, vec_capacity}
use Rattle.tx_lint.proofs.Marked.{AreComingBefore}
use Rattle.tx_lint.proofs.marks.coming.Given as goal

abbrev pub invariant-loop-index : goal.invariant-loop-index
invariant-loop-index g l = record {
  so_far : AreComingBefore l.plan l.index (map (λ m. m.items) l.marks.items);
  room : length l.plan.codes ≤ vec_capacity l.marks;
}
