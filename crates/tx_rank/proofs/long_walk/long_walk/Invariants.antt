use Rattle.tx_rank.proofs.Common.{ℕ, ◌<◌, ◌≤◌, ◌+◌, ◌≡◌, true, Some, rank_in}
use Rattle.tx_rank.proofs.long_walk.long_walk.Given as goal

abbrev pub invariant-loop-index : goal.invariant-loop-index
invariant-loop-index g l = (x r : ℕ) → x < l.index → (g.N.CodeNet.net l.net).is_origin x ≡ true → rank_in l.marks x ≡ Some r → r ≤ l.limit + 1
