use Rattle.tx_fill.proofs.Common.{◌∙◌, ap, map, take_all, state_after, Block}
use Rattle.tx_fill.proofs.Settled.{events_more}
use Rattle.tx_fill.proofs.filling.block.Goals as goal

pub loop-group-preserved : goal.loop-group-preserved
loop-group-preserved g c =
    let i = c.loop-group.invariant in
    let a = c.in_ok-apply.ensures in
    record {
      plan = a.plan ∙ i.plan;
      state = events_more Block c.args.network.now.plan c.loop-group.network.plan
          c.args.network.now.state c.loop-group.network.state _ c.args.groups.now
          c.loop-group.group-index c.group-item.result _ c.loop-group-test.true c.group-item.is i.plan
          i.state a.step;
    }

pub returns-clause-state : goal.returns-clause-state
returns-clause-state g c =
    c.loop-group.invariant.state
    ∙ ap (λ gs. state_after c.args.network.now.plan c.args.network.now.state (map Block gs))
    (take_all c.loop-group.group-index c.args.groups.now c.loop-group-test.false)
