use Rattle.tx_rank.specs.inner.Judged.{AddsBelow}
use Rattle.tx_rank.proofs.short_walks.add_shorts.Given as goal

abbrev pub invariant-loop-index : goal.invariant-loop-index
invariant-loop-index g l = AddsBelow (g.N.CodeNet.net l.net) l.code l.spare l.index l.fn.findings.items l.findings.items
