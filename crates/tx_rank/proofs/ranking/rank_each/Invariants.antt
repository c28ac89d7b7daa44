use Rattle.tx_rank.specs.inner.Judged.{IsRankedBelow}
use Rattle.tx_rank.proofs.ranking.rank_each.Given as goal

abbrev pub invariant-loop-index : goal.invariant-loop-index
invariant-loop-index g l = IsRankedBelow l.plan l.fn.limits.limit l.fn.limits.spare l.index l.cert l.findings.items
