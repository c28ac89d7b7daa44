use Rattle.tx_audit.proofs.Common.{◌++◌, walk_events}
use Rattle.tx_audit.proofs.Loops.{one_step_on, all_stepped}
use Rattle.tx_audit.proofs.steps.push_walk.Goals as goal

pub loop-step-preserved : goal.loop-step-preserved
loop-step-preserved g c = one_step_on c.args.plan.now c.args.code c.loop-step.at c.args.steps.now c.loop-step.step-index _ c.loop-step.events.items c.loop-step.invariant c.step-item.result c.list.result.now c.push_step.new.events.items c.loop-step-test.true c.step-item.is c.list.ensures.value c.in_ok-push_step.ensures

pub returns : goal.returns
returns g c =
    let all = c.args.events.now.items ++ walk_events c.args.plan.now c.args.code c.args.start c.args.steps.now in
    all_stepped c.args.plan.now c.args.code c.loop-step.at c.args.steps.now c.loop-step.step-index all c.loop-step.events.items c.loop-step.invariant c.loop-step-test.false
