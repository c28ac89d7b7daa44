use Rattle.tx_engine.proofs.Common.{refl, ap, deque_len, deque_capacity, arith, length, Book, KeptCalls, sorted_calls}
use Rattle.tx_engine.proofs.Changing.{sound_room}
use Rattle.tx_engine.proofs.engine.EngineState.reserve_call.Goals as goal

pub returns-in_err-reserve_one-clause-sound : goal.returns-in_err-reserve_one-clause-sound
returns-in_err-reserve_one-clause-sound g c =
    let n = c.args.self.now in
    sound_room n.plan.now n.codes n.calls n.keys n.lines n.circuits n.numbers (deque_len n.tickets) (deque_capacity n.tickets) c.requires c.reserve_one.new.self n.lines (deque_len n.tickets) (deque_capacity n.tickets) (ap (λ (v : KeptCalls). v.slots) c.reserve_one.ensures.rest) refl refl c.requires.ticket_room

pub returns-in_err-reserve_one-2-clause-sound : goal.returns-in_err-reserve_one-2-clause-sound
returns-in_err-reserve_one-2-clause-sound g c =
    let n = c.args.self.now in
    sound_room n.plan.now n.codes n.calls n.keys n.lines n.circuits n.numbers (deque_len n.tickets) (deque_capacity n.tickets) c.requires c.reserve_one.new.self c.reserve_one-2.new.self (deque_len n.tickets) (deque_capacity n.tickets) (ap (λ (v : KeptCalls). v.slots) c.reserve_one.ensures.rest) (ap (λ (b : Book). b.ranges) c.reserve_one-2.ensures.rest) (ap (λ (b : Book). b.engaged) c.reserve_one-2.ensures.rest) c.requires.ticket_room

pub returns-clause-sound : goal.returns-clause-sound
returns-clause-sound g c =
    let n = c.args.self.now in
    sound_room n.plan.now n.codes n.calls n.keys n.lines n.circuits n.numbers (deque_len n.tickets) (deque_capacity n.tickets) c.requires c.reserve_one.new.self c.reserve_one-2.new.self (deque_len c.reserve_tickets.new.tickets) (deque_capacity c.reserve_tickets.new.tickets) (ap (λ (v : KeptCalls). v.slots) c.reserve_one.ensures.rest) (ap (λ (b : Book). b.ranges) c.reserve_one-2.ensures.rest) (ap (λ (b : Book). b.engaged) c.reserve_one-2.ensures.rest)
    (omega (arith, c.reserve_tickets.ensures.room, c.len.ensures, ap length (ap (λ (v : KeptCalls). sorted_calls v.slots) c.reserve_one.ensures.rest)))
