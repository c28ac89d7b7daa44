use Rattle.tx_check.proofs.Common.{◌≡◌, ℕ, ◌<◌, length, false, get_or, is_origin}
use Rattle.tx_check.proofs.passes.origins.Given as goal

abbrev pub invariant-loop-index : goal.invariant-loop-index
invariant-loop-index g l = (length l.marks ≡ 256) × ((k : ℕ) → k < l.index → get_or l.marks k false ≡ is_origin l.plan k)
