use Rattle.std.proofs.Common.{arith}
use Rattle.tx_rank.proofs.Passes.{rank_within}
use Rattle.tx_rank.proofs.short_walks.has_short.Goals as goal

pub returns-clause-not_so : goal.returns-clause-not_so
returns-clause-not_so g c = λ _ x s.
    let w = rank_within c.args.marks.now x s.rank s.ranked in
    let e = c.exchanges-index-end.ensures in
    let l = c.requires in
    let t = c.loop-index-test.false in
    let a = c.loop-index.auto.index-end in
    c.loop-index.invariant x (omega arith) s
