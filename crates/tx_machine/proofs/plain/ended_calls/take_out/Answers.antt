use Rattle.tx_machine.proofs.Common.{◌∙◌, ◌<◌, ◌++◌, ◌∷◌, [], ap, refl, arith, length, ticket_of, call_seen}
use Rattle.tx_machine.proofs.Taking.{ending_none, ending_taken, ending_passed, ending_calls, ending_tickets, one_read}
use Rattle.tx_machine.proofs.plain.ended_calls.take_out.Goals as goal

pub loop-at-init : goal.loop-at-init
loop-at-init g c = ending_none c.args.plan.now c.args.cause c.args.event c.args.ends.now c.args.calls.now.items c.args.tickets.now.items c.args.calls.now c.args.tickets.now refl refl c.requires

pub loop-at-preserved : goal.loop-at-preserved
loop-at-preserved g c =
    let calls = c.loop-at.calls in
    let len = calls.ok.0 in
    ending_passed c.args.plan.now c.args.cause c.args.event c.args.ends.now c.args.calls.now.items c.args.tickets.now.items c.loop-at.at calls c.loop-at.tickets c.loop-at.invariant c.index.result.now (omega arith) (omega arith) c.index.ensures c.is_ended.result c.is_ended.ensures c.if-is_ended.false

pub loop-at-preserved-then-is_ended : goal.loop-at-preserved-then-is_ended
loop-at-preserved-then-is_ended g c =
    let calls = c.loop-at.calls in
    let len = calls.ok.0 in
    let within : c.loop-at.at < length calls.items = omega arith in
    let x = c.index.result.now in
    let same = one_read calls.items c.loop-at.at c.remove-call.result x within c.remove-call.ensures.value c.index.ensures in
    let ticket = c.ticket-made.ensures ∙ ap (λ d. ticket_of c.args.plan.now c.args.cause c.args.event (call_seen d)) same in
    ending_taken c.args.plan.now c.args.cause c.args.event c.args.ends.now c.args.calls.now.items c.args.tickets.now.items c.loop-at.at calls c.loop-at.tickets c.loop-at.invariant x (omega arith) within c.index.ensures c.remove-call.new.self c.push_reserved.new.self c.is_ended.result c.is_ended.ensures c.if-is_ended.true c.remove-call.ensures.items c.remove-call.ensures.len
    (c.push_reserved.ensures.items ∙ ap (λ t. c.loop-at.tickets.items ++ t ∷ []) ticket) c.push_reserved.ensures.len c.push_reserved.ensures.capacity

pub returns-clause-calls : goal.returns-clause-calls
returns-clause-calls g c =
    let len = c.loop-at.calls.ok.0 in
    ending_calls c.args.plan.now c.args.cause c.args.event c.args.ends.now c.args.calls.now.items c.args.tickets.now.items c.loop-at.at c.loop-at.calls c.loop-at.tickets c.loop-at.invariant (omega arith)

pub returns-clause-tickets : goal.returns-clause-tickets
returns-clause-tickets g c =
    let len = c.loop-at.calls.ok.0 in
    ending_tickets c.args.plan.now c.args.cause c.args.event c.args.ends.now c.args.calls.now.items c.args.tickets.now.items c.loop-at.at c.loop-at.calls c.loop-at.tickets c.loop-at.invariant (omega arith)

pub returns-clause-room : goal.returns-clause-room
returns-clause-room g c = c.loop-at.invariant.room
