use Rattle.tx_check.proofs.Common.{◌≡◌, ℕ, ◌<◌, [], ranks_for, origin_unranked_at}
use Rattle.tx_check.proofs.passes.origin_fault_for.Given as goal

abbrev pub invariant-loop-index : goal.invariant-loop-index
invariant-loop-index g l = (k : ℕ) → k < l.index → origin_unranked_at l.plan (ranks_for l.plan l.cert) l.code k ≡ []
