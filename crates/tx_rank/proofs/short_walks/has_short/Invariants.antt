use Rattle.tx_rank.proofs.Common.{ℕ, ◌<◌, rank_in, IsShortAt}
use Rattle.tx_rank.proofs.short_walks.has_short.Given as goal

abbrev pub invariant-loop-index : goal.invariant-loop-index
invariant-loop-index g l = (x : ℕ) → x < l.index → IsShortAt (g.N.CodeNet.net l.net) (rank_in l.marks) l.spare x → ⊥
