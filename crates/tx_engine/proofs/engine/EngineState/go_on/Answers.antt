use Rattle.tx_engine.proofs.Confirming.{may_hold_it, has_keys, has_room, sound_confirmed, step_confirmed}
use Rattle.tx_engine.proofs.engine.EngineState.go_on.Goals as goal

pub hold-requires : goal.hold-requires
hold-requires g c =
    let n = c.args.self.now in
    let q = c.requires.calls in
    let k = q.0 in
    may_hold_it n c.requires.sound c.args.number c.args.key c.args.circuit.now k q.1 q.2 c.args.far q.3 c.requires.alone

pub set_both-requires : goal.set_both-requires
set_both-requires g c =
    let n = c.args.self.now in
    let q = c.requires.calls in
    let k = q.0 in
    has_keys n c.requires.sound c.args.number c.args.key c.args.circuit.now k q.1 q.2

pub go_on-requires-clause-room : goal.go_on-requires-clause-room
go_on-requires-clause-room g c =
    let n = c.args.self.now in
    let q = c.requires.calls in
    let k = q.0 in
    has_room n c.requires.sound c.args.number c.args.key c.args.circuit.now k q.1 q.2

pub returns-clause-sound : goal.returns-clause-sound
returns-clause-sound g c =
    let n = c.args.self.now in
    let q = c.requires.calls in
    let k = q.0 in
    let h = c.go_on.ensures.changes k q.1.kept in
    sound_confirmed n c.requires.sound c.args.number c.args.key c.args.circuit.now k q.1 q.2 c.args.far q.3 c.requires.alone c.hold.new.self c.hold.ensures c.set_both.new.self c.set_both.ensures c.go_on.new.self h.0 h.1 (c.go_on.ensures.calls k q.1.kept)

pub returns-clause-step : goal.returns-clause-step
returns-clause-step g c =
    let n = c.args.self.now in
    let q = c.requires.calls in
    let k = q.0 in
    let h = c.go_on.ensures.changes k q.1.kept in
    step_confirmed n c.requires.sound c.args.number c.args.key c.args.circuit.now k q.1 q.2 c.args.far q.3 c.requires.alone c.hold.new.self c.hold.ensures c.set_both.new.self c.set_both.ensures c.go_on.new.self h.0 h.1 (c.go_on.ensures.calls k q.1.kept)
