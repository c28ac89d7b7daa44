use Rattle.tx_engine.proofs.Common.{◌≡◌, ◌++◌, ◌∷◌, [], Some, sym, ap, ◌∙◌, deque_len, deque_capacity, end_call, Kept, kept_of, state_of}
use Rattle.tx_engine.proofs.Ended.{may_give_back, has_ticket_room, sound_ended, state_ended}
use Rattle.tx_engine.proofs.engine.EngineState.end_call.Goals as goal

pub give_back-requires : goal.give_back-requires
give_back-requires g c =
    let n = c.args.self.now in
    let k = kept_of c.take_out-call.result in
    may_give_back n c.requires.sound c.args.key k c.take_out-call.ensures.value

pub push_back_reserved-requires : goal.push_back_reserved-requires
push_back_reserved-requires g c =
    let n = c.args.self.now in
    let k = kept_of c.take_out-call.result in
    has_ticket_room n c.requires.sound c.args.key k c.take_out-call.ensures.value

pub returns-clause-sound : goal.returns-clause-sound
returns-clause-sound g c =
    let n = c.args.self.now in
    let k = kept_of c.take_out-call.result in
    sound_ended n c.requires.sound c.args.key k c.take_out-call.ensures.value c.take_out-call.new.self c.free_lines.new.lines c.give_back.new.circuits c.take_out-call.ensures.changes c.take_out-call.ensures.calls c.free_lines.ensures c.give_back.ensures
    (deque_len c.push_back_reserved.new.self) (deque_capacity c.push_back_reserved.new.self) c.push_back_reserved.ensures.len c.push_back_reserved.ensures.capacity

pub returns-clause-state : goal.returns-clause-state
returns-clause-state g c = λ e was.
    let n = c.args.self.now in
    let k = kept_of c.take_out-call.result in
    let both : Some k ≡ Some e = sym c.take_out-call.ensures.value ∙ was in
    let one : k ≡ e = cc in
    state_ended n c.requires.sound c.args.key k c.take_out-call.ensures.value c.take_out-call.new.self c.free_lines.new.lines c.give_back.new.circuits c.take_out-call.ensures.changes c.take_out-call.ensures.calls c.free_lines.ensures c.give_back.ensures c.args.cause c.push_back_reserved.new.self.items (c.push_back_reserved.ensures.items ∙ ap (λ z. n.tickets.items ++ z ∷ []) c.ticket_of-ticket.ensures)
    ∙ ap (λ (z : Kept). end_call n.plan.now c.args.cause z.call.number (state_of n)) one
