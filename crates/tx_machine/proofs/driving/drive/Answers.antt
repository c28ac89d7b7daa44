use Rattle.std.proofs.Common.{◌∙◌, arith, inr, rules}
use Rattle.tx_text.proofs.Writing.{on_err}
use Rattle.tx_machine.proofs.RunOn.{driven_more, driven_stop}
use Rattle.tx_machine.proofs.driving.drive.Goals as goal

pub loop-at-preserved : goal.loop-at-preserved
loop-at-preserved g c =
    let v = c.loop-at.invariant in
    let a = c.in_ok-reply.ensures in
    let r = driven_more _ _ _ _ _ c.args.events.now c.loop-at.at c.index-events-at.result _ _ _ _ c.loop-at-test.true c.index-events-at.is v.1 v.2 v.3 a.step c.push_reserved.ensures.items in
    let before = v.4 in
    let l = c.loop-at-test.true in
    let len = c.push_reserved.ensures.len in
    let room = c.push_reserved.ensures.capacity in
    (omega arith, a.plan ∙ v.1, r.0, r.1, omega arith)

pub returns-in_err-reply-clause-err : goal.returns-in_err-reply-clause-err
returns-in_err-reply-clause-err g c =
    let v = c.loop-at.invariant in
    let a = c.in_err-reply.ensures in
    on_err c.from_residual-in_err-reply.result (inr (driven_stop _ _ _ _ _ c.args.events.now c.loop-at.at c.index-events-at.result _ _ c.loop-at-test.true c.index-events-at.is v.1 v.2 v.3 a.err a.memory))

pub loop-at-init : goal.loop-at-init
loop-at-init g c = search rules
