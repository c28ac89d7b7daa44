use Rattle.tx_join.proofs.Common.{◌≡◌, ℕ, ◌<◌, false, has_other_group}
use Rattle.tx_join.proofs.refusing.other_group.Given as goal

abbrev pub invariant-loop-index : goal.invariant-loop-index
invariant-loop-index g l = (k : ℕ) → k < l.index → has_other_group l.old l.new k ≡ false
