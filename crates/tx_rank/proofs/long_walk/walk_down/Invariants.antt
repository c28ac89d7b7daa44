use Rattle.tx_rank.proofs.Common.{◌≡◌, length, rank_in}
use Rattle.tx_rank.proofs.Tracing.{IsDown}
use Rattle.tx_rank.proofs.long_walk.walk_down.Given as goal

abbrev pub invariant-loop-i : goal.invariant-loop-i
invariant-loop-i g l = record { down : IsDown (g.N.CodeNet.net l.net) (rank_in l.marks) l.origin l.rank l.at l.steps.items; count : length l.steps.items ≡ l.i }
