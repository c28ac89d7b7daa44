use Rattle.tx_check.proofs.Common.{◌≡◌, ℕ, ◌<◌, [], ranks_for, too_high_at}
use Rattle.tx_check.proofs.passes.height_fault_for.Given as goal

abbrev pub invariant-loop-index : goal.invariant-loop-index
invariant-loop-index g l = (k : ℕ) → k < l.index → too_high_at (ranks_for l.plan l.cert) l.limit l.code k ≡ []
