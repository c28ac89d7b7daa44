use Rattle.tx_rank.specs.inner.Marks.{IsPassing}
use Rattle.tx_rank.proofs.explore.pass.Given as goal

abbrev pub invariant-loop-index : goal.invariant-loop-index
invariant-loop-index g l = IsPassing (g.N.CodeNet.net l.net) l.search.marks.items l.index
