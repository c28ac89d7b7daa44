use Rattle.tx_join.proofs.Common.{◌≡◌, ℕ, ◌<◌, not, false, is_known}
use Rattle.tx_join.proofs.differences.has_alone.Given as goal

abbrev pub invariant-loop-index : goal.invariant-loop-index
invariant-loop-index g l = (k : ℕ) → k < l.index → not (is_known l.entries l.plan l.other k) ≡ false
