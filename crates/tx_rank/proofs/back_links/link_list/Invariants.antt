use Rattle.tx_rank.proofs.Common.{take, rank_in}
use Rattle.tx_rank.proofs.Linking.{IsLinking}
use Rattle.tx_rank.proofs.back_links.link_list.Given as goal

abbrev pub invariant-loop-i : goal.invariant-loop-i
invariant-loop-i g l = let n = g.N.CodeNet.net l.net in IsLinking n (rank_in l.marks) l.exchange (take l.i (n.list l.exchange)) l.fn.links l.links
