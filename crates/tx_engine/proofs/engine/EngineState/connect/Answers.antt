use Rattle.tx_engine.proofs.Common.{List, sym, ap, ◌∙◌, Call, Book, calls_in, state_seen}
use Rattle.std.specs.FinSet as set
use Rattle.tx_machine.specs.declared.reply.Reply.TheVariants.{Connected}
use Rattle.tx_engine.proofs.Routing.{sound_connected}
use Rattle.tx_engine.proofs.engine.EngineState.connect.Goals as goal

pub returns-clause-sound : goal.returns-clause-sound
returns-clause-sound g c =
    let n = c.args.self.now in
    let l = c.args.line.now in
    let k = c.requires.decided.0 in
    let d = c.requires.decided.1 in
    sound_connected n c.requires.sound c.args.key k l d c.engage.new.self
    (ap (λ (b : Book). b.ranges) c.engage.ensures.lines ∙ ap (λ (b : Book). b.ranges) c.reserve_one.ensures.rest)
    (ap (λ (b : Book). b.engaged) c.engage.ensures.lines ∙ ap (λ (b : Book). set.insert b.engaged l) c.reserve_one.ensures.rest)
    c.set_phase.new.self (c.set_phase.ensures.changes k d.kept) (c.set_phase.ensures.calls k d.kept)

pub returns-clause-ok : goal.returns-clause-ok
returns-clause-ok g c = λ k at.
    let n = c.args.self.now in
    let l = c.args.line.now in
    let seen = λ (b : Book). state_seen (calls_in c.set_phase.new.self) n.circuits b n.numbers n.events n.tickets.items in
    ap (λ (cs : List Call). (Connected l, state_seen cs n.circuits n.lines n.numbers n.events n.tickets.items)) (sym (c.set_phase.ensures.calls k at))
    ∙ ap (λ s. (Connected l, s)) (sym (ap seen c.engage.ensures.lines ∙ ap seen c.reserve_one.ensures.rest))
