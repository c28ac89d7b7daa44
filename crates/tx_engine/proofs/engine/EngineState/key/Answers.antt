use Rattle.tx_engine.proofs.Common.{◌+◌, ◌++◌, ◌∷◌, [], sym, ap, ◌∙◌, List, deque_len, deque_capacity, arith, Plan, is_line, Hop, Call, is_engaged, State, accepted, Book, calls_in, state_seen, state_of}
use Rattle.std.specs.FinSet as set
use Rattle.tx_machine.specs.declared.event.Event.TheVariants.{Key}
use Rattle.tx_machine.specs.declared.reply.Reply.TheVariants.{Keyed}
use Rattle.tx_machine.proofs.Unrefused.{can_count, can_key, key_line}
use Rattle.tx_engine.proofs.Changing.{sound_key, keyed_with}
use Rattle.tx_engine.proofs.engine.EngineState.key.Goals as goal

pub overflow_add-number : goal.overflow_add-number
overflow_add-number g c =
    let n = c.args.self.now in
    omega (arith, can_key n.plan.now (state_of n) c.args.line c.args.keyed c.requires.open, c.reserve_call.ensures.numbers)

pub overflow_add-call : goal.overflow_add-call
overflow_add-call g c =
    let n = c.args.self.now in
    omega (arith, can_count n.plan.now (state_of n) (Key c.args.line c.args.keyed) c.requires.open, c.reserve_call.ensures.events)

pub open-requires-clause-next : goal.open-requires-clause-next
open-requires-clause-next g c = λ d m. let given = c.reserve_call.ensures.sound.together.inv.given d m in omega (arith, given)

pub returns-clause-sound : goal.returns-clause-sound
returns-clause-sound g c =
    let n = c.args.self.now in
    let m = c.reserve_call.new.self in
    let sound = c.reserve_call.ensures.sound in
    let line = c.args.line in
    let may = key_line n.plan.now (state_of n) line c.args.keyed c.requires.open in
    let call = λ (h : List Hop). keyed_with (m.numbers + 1) line c.args.keyed (m.events + 1) h in
    let added = c.«open».ensures.changes in
    sound_key m.plan.now m.codes m.calls m.keys m.lines m.circuits m.numbers (deque_len m.tickets) (deque_capacity m.tickets) sound
    c.«open».new.self c.engage.new.self added.0 _ line c.args.keyed (m.events + 1)
    (ap (λ (p : Plan). is_line p line) c.reserve_call.ensures.plan ∙ may.0)
    (sound.together.engaged line ∙ ap (λ (s : State). is_engaged s line) c.reserve_call.ensures.state ∙ may.1)
    added.2 (ap call c.new.ensures.items) (c.«open».ensures.calls ∙ ap (λ (h : List Hop). calls_in m.calls ++ call h ∷ []) c.new.ensures.items)
    (ap (λ (b : Book). b.ranges) c.engage.ensures.lines)
    (ap (λ (b : Book). b.engaged) c.engage.ensures.lines)
    c.in_ok-reserve_call.ensures.tickets

pub returns-clause-ok : goal.returns-clause-ok
returns-clause-ok g c =
    let n = c.args.self.now in
    let m = c.reserve_call.new.self in
    let line = c.args.line in
    let keyed = c.args.keyed in
    let call = λ (h : List Hop). keyed_with (m.numbers + 1) line keyed (m.events + 1) h in
    let calls = c.«open».ensures.calls ∙ ap (λ (h : List Hop). calls_in m.calls ++ call h ∷ []) c.new.ensures.items in
    ap (λ (s : State). accepted n.plan.now s (Key line keyed)) (sym c.reserve_call.ensures.state)
    ∙ ap (λ (cs : List Call). (Keyed (m.numbers + 1), state_seen cs m.circuits m.lines (m.numbers + 1) m.events m.tickets.items)) (sym calls)
    ∙ ap (λ (b : Book). (Keyed (m.numbers + 1), state_seen (calls_in c.«open».new.self) m.circuits b (m.numbers + 1) m.events m.tickets.items)) (sym c.engage.ensures.lines)
