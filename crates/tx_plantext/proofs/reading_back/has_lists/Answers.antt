use Rattle.tx_plantext.proofs.Common.{arith, Route}
use Rattle.tx_plantext.proofs.SamePlans.{list_too, of_all, SameList}
use Rattle.tx_plantext.proofs.reading_back.has_lists.Goals as goal

pub loop-index-preserved : goal.loop-index-preserved
loop-index-preserved g c =
    list_too c.args.plan.now c.args.other.now c.loop-index.index _ c.in-Some.ensures.value (c.has_list.ensures c.if-not-has_list.false) c.loop-index.invariant

pub returns : goal.returns
returns g c = λ _.
    of_all (λ (r : Route). SameList c.args.plan.now c.args.other.now r.exchange r.code) c.args.other.now.routes c.loop-index.index
    (let t = c.loop-index-test.false in let e = c.routes-index-end.ensures.count in omega arith) c.loop-index.invariant
