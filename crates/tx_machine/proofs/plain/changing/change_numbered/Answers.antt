use Rattle.tx_machine.proofs.Common.{◌<◌, ◌-◌, ◌+◌, ap, sym, subst, length, get_or, length-set, changed_call, change_at, falls}
use Rattle.tx_machine.proofs.Sweeping.{ready_here, changed_step, changing_none, swept_all}
use Rattle.tx_machine.proofs.plain.changing.change_numbered.Goals as goal

pub change_one-requires : goal.change_one-requires
change_one-requires g c =
    let x = get_or c.loop-at.calls c.loop-at.at c.index-calls-at.result in
    ready_here c.args.number c.args.calls.now c.loop-at.at c.loop-at.calls x x c.loop-at-test.true (ap (λ d. get_or c.loop-at.calls c.loop-at.at d) c.index-calls-at.is) c.args.change.now c.loop-at.invariant

pub loop-at-preserved : goal.loop-at-preserved
loop-at-preserved g c =
    let x = get_or c.loop-at.calls c.loop-at.at c.index-calls-at.result in
    changed_step c.args.number c.args.calls.now c.loop-at.at c.loop-at.calls x c.change_one.new.call c.loop-at-test.true (ap (λ d. get_or c.loop-at.calls c.loop-at.at d) c.index-calls-at.is) c.args.change.now c.loop-at.invariant c.change_one.ensures.seen c.change_one.ensures.room

pub loop-at-smaller : goal.loop-at-smaller
loop-at-smaller g c =
    let calls = c.loop-at.calls in
    let at = c.loop-at.at in
    subst (λ n. n - (at + 1) < length calls - at) (sym (length-set calls at c.change_one.new.call)) (falls (length calls) at c.loop-at-test.true)

pub loop-at-init : goal.loop-at-init
loop-at-init g c = changing_none c.args.number c.args.change.now c.args.calls.now c.requires

pub returns-clause-seen : goal.returns-clause-seen
returns-clause-seen g c = swept_all (change_at c.args.number (changed_call c.args.change.now)) c.args.calls.now c.loop-at.at c.loop-at.calls c.loop-at.invariant.seen c.loop-at-test.false

pub returns-clause-len : goal.returns-clause-len
returns-clause-len g c = c.loop-at.invariant.len

pub returns-clause-room : goal.returns-clause-room
returns-clause-room g c = c.loop-at.invariant.room

pub bounds-calls-at : goal.bounds-calls-at
bounds-calls-at g c = c.loop-at-test.true
