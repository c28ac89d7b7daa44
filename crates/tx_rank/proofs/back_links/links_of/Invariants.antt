use Rattle.tx_rank.specs.inner.Marks.{rank_in}
use Rattle.tx_rank.proofs.Linking.{IsLinkedBelow}
use Rattle.tx_rank.proofs.back_links.links_of.Given as goal

abbrev pub invariant-loop-index : goal.invariant-loop-index
invariant-loop-index g l = IsLinkedBelow (g.N.CodeNet.net l.net) (rank_in l.marks) l.links.items l.index
