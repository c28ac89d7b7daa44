use Rattle.tx_check.proofs.Common.{◌≡◌, ℕ, ◌<◌, [], ranks_for, at_exchanges, too_high_at}
use Rattle.tx_check.proofs.passes.height_fault.Given as goal

abbrev pub invariant-loop-index : goal.invariant-loop-index
invariant-loop-index g l = (k : ℕ) → k < l.index → at_exchanges l.plan (too_high_at (ranks_for l.plan l.cert) l.limit k) ≡ []
