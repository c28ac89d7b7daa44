use Rattle.tx_machine.proofs.Common.{◌<◌, ◌-◌, ◌+◌, ◌∙◌, ap, sym, subst, length, get_or, length-set, falls}
use Rattle.tx_machine.proofs.Sweeping.{reserved_seen, reserved_room, reserved_step, all_ready, reserving_none}
use Rattle.tx_machine.proofs.plain.changing.reserve_hop.Goals as goal

pub returns-in_err-reserve_one-clause-seen : goal.returns-in_err-reserve_one-clause-seen
returns-in_err-reserve_one-clause-seen g c =
    let x = get_or c.loop-at.calls c.loop-at.at c.index-calls-at.result in
    reserved_seen c.args.number c.args.calls.now c.loop-at.at c.loop-at.calls x c.reserve_one.new.call c.loop-at-test.true (ap (λ d. get_or c.loop-at.calls c.loop-at.at d) c.index-calls-at.is) c.loop-at.invariant c.reserve_one.ensures.seen c.reserve_one.ensures.room

pub returns-in_err-reserve_one-clause-room : goal.returns-in_err-reserve_one-clause-room
returns-in_err-reserve_one-clause-room g c =
    let x = get_or c.loop-at.calls c.loop-at.at c.index-calls-at.result in
    reserved_room c.args.number c.args.calls.now c.loop-at.at c.loop-at.calls x c.reserve_one.new.call c.loop-at-test.true (ap (λ d. get_or c.loop-at.calls c.loop-at.at d) c.index-calls-at.is) c.loop-at.invariant c.reserve_one.ensures.seen c.reserve_one.ensures.room

pub returns-clause-ready : goal.returns-clause-ready
returns-clause-ready g c = all_ready c.args.number c.loop-at.at c.loop-at.calls c.loop-at.invariant.ready c.loop-at-test.false

pub loop-at-preserved : goal.loop-at-preserved
loop-at-preserved g c =
    let x = get_or c.loop-at.calls c.loop-at.at c.index-calls-at.result in
    reserved_step c.args.number c.args.calls.now c.loop-at.at c.loop-at.calls x c.reserve_one.new.call c.loop-at-test.true (ap (λ d. get_or c.loop-at.calls c.loop-at.at d) c.index-calls-at.is) c.loop-at.invariant c.reserve_one.ensures.seen c.reserve_one.ensures.room c.in_ok-reserve_one.ensures.ready

pub loop-at-smaller : goal.loop-at-smaller
loop-at-smaller g c =
    let calls = c.loop-at.calls in
    let at = c.loop-at.at in
    subst (λ n. n - (at + 1) < length calls - at) (sym (length-set calls at c.reserve_one.new.call)) (falls (length calls) at c.loop-at-test.true)

pub loop-at-init : goal.loop-at-init
loop-at-init g c = reserving_none c.args.number c.args.calls.now

pub returns-in_err-reserve_one-clause-len : goal.returns-in_err-reserve_one-clause-len
returns-in_err-reserve_one-clause-len g c = length-set c.loop-at.calls c.loop-at.at c.reserve_one.new.call ∙ c.loop-at.invariant.len

pub returns-clause-seen : goal.returns-clause-seen
returns-clause-seen g c = c.loop-at.invariant.seen

pub returns-clause-len : goal.returns-clause-len
returns-clause-len g c = c.loop-at.invariant.len

pub returns-clause-room : goal.returns-clause-room
returns-clause-room g c = c.loop-at.invariant.room

pub bounds-calls-at : goal.bounds-calls-at
bounds-calls-at g c = c.loop-at-test.true
