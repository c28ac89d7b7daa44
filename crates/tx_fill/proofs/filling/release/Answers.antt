use Rattle.tx_fill.proofs.Common.{◌∙◌, ap, map, take_all, state_after, release_of}
use Rattle.tx_fill.proofs.Settled.{events_more}
use Rattle.tx_fill.proofs.filling.release.Goals as goal

pub loop-hop-preserved : goal.loop-hop-preserved
loop-hop-preserved g c =
    let i = c.loop-hop.invariant in
    let a = c.in_ok-apply.ensures in
    record {
      plan = a.plan ∙ i.plan;
      state = events_more release_of c.args.network.now.plan c.loop-hop.network.plan
          c.args.network.now.state c.loop-hop.network.state _ c.args.hops.now
          c.loop-hop.hop-index c.hop-item.result _ c.loop-hop-test.true c.hop-item.is i.plan
          i.state a.step;
    }

pub returns-clause-state : goal.returns-clause-state
returns-clause-state g c =
    c.loop-hop.invariant.state
    ∙ ap (λ hs. state_after c.args.network.now.plan c.args.network.now.state (map release_of hs))
    (take_all c.loop-hop.hop-index c.args.hops.now c.loop-hop-test.false)
