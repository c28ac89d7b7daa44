use Rattle.tx_check.proofs.Common.{◌≡◌, ℕ, ◌<◌, [], ranks_for, at_exchanges, origin_unranked_at}
use Rattle.tx_check.proofs.passes.origin_fault.Given as goal

abbrev pub invariant-loop-index : goal.invariant-loop-index
invariant-loop-index g l = (k : ℕ) → k < l.index → at_exchanges l.plan (origin_unranked_at l.plan (ranks_for l.plan l.cert) k) ≡ []
