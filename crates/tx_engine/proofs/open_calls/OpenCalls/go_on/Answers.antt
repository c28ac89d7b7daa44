use Rattle.tx_engine.proofs.Common.{refl, carried_on}
use Rattle.tx_engine.proofs.Bridge.{tied_written, changes_written, calls_written, room_under}
use Rattle.tx_engine.proofs.open_calls.OpenCalls.go_on.Goals as goal

pub add_hop-requires : goal.add_hop-requires
add_hop-requires g c = room_under c.self.inside.calls c.self.inside.by_number c.args.self.now c.self.view_is c.args.key c.requires.room

pub invariant_of-self : goal.invariant_of-self
invariant_of-self g c =
    let i = c.self.inside in
    tied_written i.calls c.add_hop.new.calls i.by_number c.self.invariant c.args.self.now c.self.view_is c.args.key (carried_on c.args.hop.circuit c.args.hop.far) (λ k. refl) c.add_hop.ensures c.requires.there

pub returns-clause-changes : goal.returns-clause-changes
returns-clause-changes g c =
    let i = c.self.inside in
    changes_written i.calls c.add_hop.new.calls i.by_number c.self.invariant c.args.self.now c.self.view_is c.args.key (carried_on c.args.hop.circuit c.args.hop.far) (λ k. refl) c.add_hop.ensures

pub returns-clause-calls : goal.returns-clause-calls
returns-clause-calls g c =
    let i = c.self.inside in
    calls_written i.calls c.add_hop.new.calls i.by_number c.self.invariant c.args.self.now c.self.view_is c.args.key (carried_on c.args.hop.circuit c.args.hop.far) (λ k. refl) c.add_hop.ensures
