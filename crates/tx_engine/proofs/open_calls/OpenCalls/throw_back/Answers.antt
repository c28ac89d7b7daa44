use Rattle.tx_engine.proofs.Common.{refl, true, thrown_back, Standing, Kept}
use Rattle.tx_engine.proofs.Bridge.{tied_written, changes_exactly, calls_written}
use Rattle.tx_engine.proofs.open_calls.OpenCalls.throw_back.Goals as goal

pub invariant_of-self : goal.invariant_of-self
invariant_of-self g c =
    let i = c.self.inside in
    tied_written i.calls c.write_collision.new.calls i.by_number c.self.invariant c.args.self.now c.self.view_is c.args.key thrown_back (λ k. refl)
    (λ d e. (record d { phase = Standing; collided = true }, c.write_collision.ensures d e, refl)) c.requires

pub returns-clause-changes : goal.returns-clause-changes
returns-clause-changes g c =
    let i = c.self.inside in
    changes_exactly i.calls c.write_collision.new.calls i.by_number c.args.self.now c.self.view_is c.args.key (λ (k : Kept). record k { call = thrown_back k.call }) (λ d e. (record d { phase = Standing; collided = true }, c.write_collision.ensures d e, refl))

pub returns-clause-calls : goal.returns-clause-calls
returns-clause-calls g c =
    let i = c.self.inside in
    calls_written i.calls c.write_collision.new.calls i.by_number c.self.invariant c.args.self.now c.self.view_is c.args.key thrown_back (λ k. refl)
    (λ d e. (record d { phase = Standing; collided = true }, c.write_collision.ensures d e, refl))
