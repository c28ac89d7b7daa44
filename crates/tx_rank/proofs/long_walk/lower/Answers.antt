use Rattle.tx_rank.specs.inner.Marks.{rank_in}
use Rattle.tx_rank.proofs.Looks.{among_at}
use Rattle.tx_rank.proofs.Tracing.{lower_more}
use Rattle.tx_rank.proofs.long_walk.lower.Goals as goal

pub returns-then-has_rank : goal.returns-then-has_rank
returns-then-has_rank g c =
    let o = c.onward-group in
    (among_at ((g.N.CodeNet.net c.args.net.now).list c.args.exchange) c.loop-i.i o.result.0 o.ensures.at, o.ensures.leads, c.has_rank.ensures.yes c.if-has_rank.true)

pub loop-i-preserved : goal.loop-i-preserved
loop-i-preserved g c =
    let o = c.onward-group in
    lower_more (g.N.CodeNet.net c.args.net.now) (rank_in c.args.marks.now) c.args.exchange c.loop-i.i c.args.rank o.result.0 o.result.1 o.ensures.at o.ensures.leads (c.has_rank.ensures.not_so c.if-has_rank.false) c.loop-i.invariant
