use Rattle.tx_lint.proofs.Common.{◌≡◌, ℕ, length, take, ◌||◌, ◌==◌, list_any, is_marked}
use Rattle.tx_lint.proofs.marks.mark_all.Given as goal

abbrev pub invariant-loop-i : goal.invariant-loop-i
invariant-loop-i l = record {
  long : length l.marks ≡ length l.fn.marks;
  so_far : (x : ℕ) → is_marked l.marks x
      ≡ (is_marked l.fn.marks x || list_any (λ h. h == x) (take l.i l.groups));
}
