use Rattle.tx_rank.proofs.Common.{take, None, rank_in, IsLower}
use Rattle.tx_rank.proofs.long_walk.lower.Given as goal

abbrev pub invariant-loop-i : goal.invariant-loop-i
invariant-loop-i g l = let n = g.N.CodeNet.net l.net in IsLower n (rank_in l.marks) l.exchange (take l.i (n.list l.exchange)) l.rank None
