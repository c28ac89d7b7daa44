use Rattle.tx_engine.proofs.Common.{◌≡◌, ℕ, ◌<◌, ◌==◌, Some, refl, sym, ap, ◌∙◌, subst, OnOk, deque_len, deque_capacity, Calling, set_call, in_phase, calls_in, state_seen}
use Rattle.tx_machine.specs.declared.reply.Reply.TheVariants.{Seized}
use Rattle.tx_engine.proofs.Sorted.{twice}
use Rattle.tx_engine.proofs.Changing.{sound_hop}
use Rattle.tx_engine.proofs.Routing.{stands_there, known, may, free, has_keys, sound_seized}
use Rattle.tx_engine.proofs.engine.EngineState.seize.Goals as goal

pub returns-in_err-reserve_hop-clause-sound : goal.returns-in_err-reserve_hop-clause-sound
returns-in_err-reserve_hop-clause-sound g c =
    let n = c.args.self.now in
    let k = c.requires.decided.0 in
    let d = c.requires.decided.1 in
    let x = c.args.circuit.now in
    let h = c.reserve_hop.ensures.changes k d.kept in
    sound_hop n.plan.now n.codes n.calls n.keys n.lines n.circuits n.numbers (deque_len n.tickets) (deque_capacity n.tickets) c.requires.sound c.args.key k d.kept c.reserve_hop.new.self h.0 h.1 c.reserve_hop.ensures.calls h.2

pub seize-requires : goal.seize-requires
seize-requires g c =
    let n = c.args.self.now in
    let k = c.requires.decided.0 in
    let d = c.requires.decided.1 in
    let x = c.args.circuit.now in
    record {
      known = known n c.requires.sound c.args.key k x c.exchange_of-here.result (stands_there n.plan.now n.calls c.args.key c.exchange_of-here.result k _ d.kept c.at.ensures c.exchange_of-here.ensures) d;
      may = may n c.requires.sound c.args.key k x c.exchange_of-here.result (stands_there n.plan.now n.calls c.args.key c.exchange_of-here.result k _ d.kept c.at.ensures c.exchange_of-here.ensures) d;
      free = free n c.requires.sound c.args.key k x c.exchange_of-here.result (stands_there n.plan.now n.calls c.args.key c.exchange_of-here.result k _ d.kept c.at.ensures c.exchange_of-here.ensures) d;
    }

pub set-requires : goal.set-requires
set-requires g c =
    let n = c.args.self.now in
    let k = c.requires.decided.0 in
    let d = c.requires.decided.1 in
    let x = c.args.circuit.now in
    has_keys n c.requires.sound c.args.key k x c.exchange_of-here.result (stands_there n.plan.now n.calls c.args.key c.exchange_of-here.result k _ d.kept c.at.ensures c.exchange_of-here.ensures) d

pub returns-clause-sound : goal.returns-clause-sound
returns-clause-sound g c =
    let n = c.args.self.now in
    let k = c.requires.decided.0 in
    let d = c.requires.decided.1 in
    let x = c.args.circuit.now in
    let h = c.reserve_hop.ensures.changes k d.kept in
    let calls = c.set_phase.ensures.calls (record k { room = h.0 }) h.1.changed ∙ ap (set_call k.call.number (in_phase (Calling x))) c.reserve_hop.ensures.calls in
    sound_seized n c.requires.sound c.args.key k x c.exchange_of-here.result (stands_there n.plan.now n.calls c.args.key c.exchange_of-here.result k _ d.kept c.at.ensures c.exchange_of-here.ensures) d c.eq.result (c.eq.ensures ∙ ap (λ (z : ℕ × ℕ). z.0 == c.exchange_of-here.result) c.ends-first.ensures) c.seize.new.self c.seize.ensures c.set.new.self c.set.ensures
    c.set_phase.new.self (record k { call = in_phase (Calling x) k.call; room = h.0 }) refl
    (twice n.calls c.reserve_hop.new.self c.set_phase.new.self c.args.key (Some (record k { room = h.0 })) _ h.1 (c.set_phase.ensures.changes (record k { room = h.0 }) h.1.changed))
    calls (subst (λ r. OnOk r (0 < h.0)) c.in_ok-reserve_hop.was h.3)

pub returns-clause-ok : goal.returns-clause-ok
returns-clause-ok g c = λ e was.
    let n = c.args.self.now in
    let k = c.requires.decided.0 in
    let d = c.requires.decided.1 in
    let x = c.args.circuit.now in
    let h = c.reserve_hop.ensures.changes k d.kept in
    let calls = c.set_phase.ensures.calls (record k { room = h.0 }) h.1.changed ∙ ap (set_call k.call.number (in_phase (Calling x))) c.reserve_hop.ensures.calls in
    let both : Some k ≡ Some e = sym d.kept ∙ was in
    let one : k ≡ e = cc in
    (λ i. (Seized x, record (state_seen (calls_in n.calls) n.circuits n.lines n.numbers n.events n.tickets.items) { calls = set_call (sym one i).call.number (in_phase (Calling x)) (calls_in n.calls) }))
    ∙ (λ i. (Seized x, state_seen (sym calls i) (sym c.seize.ensures i) n.lines n.numbers n.events n.tickets.items))
