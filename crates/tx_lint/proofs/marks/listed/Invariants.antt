use Rattle.tx_lint.proofs.Common.{◌≡◌, ℕ, length, take, is_marked}
use Rattle.tx_lint.proofs.Marked.{stands_in}
use Rattle.tx_lint.proofs.marks.listed.Given as goal

abbrev pub invariant-loop-index : goal.invariant-loop-index
invariant-loop-index g l = record {
  long : length l.marks.items ≡ length l.plan.groups;
  so_far : (x : ℕ) → is_marked l.marks.items x ≡ stands_in x (take l.index l.plan.routes);
}
