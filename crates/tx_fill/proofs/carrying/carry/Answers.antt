use Rattle.std.proofs.Common.{◌∙◌, sym}
use Rattle.tx_fill.proofs.Carried.{carried_out, carried_stop, carried_more}
use Rattle.tx_fill.proofs.carrying.carry.Goals as goal

pub loop-preserved : goal.loop-preserved
loop-preserved g c =
    let i = c.loop.invariant in
    let a = c.in_ok-reply.ensures in
    let b = c.in_ok-apply.ensures in
    record {
      plan = b.plan ∙ a.plan ∙ i.plan;
      state = carried_more c.args.network.now.plan c.args.call c.args.most c.loop.counter
          c.loop.network.state _ i.state c.loop.network.plan _ _ c.loop-test.true i.plan a.step _ _ _
          (sym c.is_seized.ensures ∙ c.if-not-is_seized.false) (a.plan ∙ i.plan) b.step;
    }

pub returns-then-not-is_seized : goal.returns-then-not-is_seized
returns-then-not-is_seized g c =
    let i = c.loop.invariant in
    let a = c.in_ok-reply.ensures in
    record {
      plan = a.plan ∙ i.plan;
      state = carried_stop c.args.network.now.plan c.args.call c.args.most c.loop.counter
          c.loop.network.state _ i.state c.loop.network.plan _ _ c.loop-test.true i.plan a.step
          (sym c.is_seized.ensures ∙ c.if-not-is_seized.true);
    }

pub returns : goal.returns
returns g c =
    let i = c.loop.invariant in
    record {
      plan = i.plan;
      state = carried_out c.args.network.now.plan c.args.call c.args.most c.loop.counter
          c.loop.network.state _ i.state c.loop-test.false;
    }
