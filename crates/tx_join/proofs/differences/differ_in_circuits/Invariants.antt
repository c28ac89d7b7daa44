use Rattle.tx_join.proofs.Common.{◌≡◌, ℕ, ◌<◌, false, has_other_circuits}
use Rattle.tx_join.proofs.differences.differ_in_circuits.Given as goal

abbrev pub invariant-loop-index : goal.invariant-loop-index
invariant-loop-index g l = (k : ℕ) → k < l.index → has_other_circuits l.old l.new k ≡ false
