use Rattle.tx_check.proofs.Common.{◌≡◌, ℕ, ◌<◌, [], ranks_for, home_not_zero_at}
use Rattle.tx_check.proofs.passes.home_fault.Given as goal

abbrev pub invariant-loop-index : goal.invariant-loop-index
invariant-loop-index g l = (k : ℕ) → k < l.index → home_not_zero_at l.plan (ranks_for l.plan l.cert) k ≡ []
