use Rattle.std.proofs.Common.{refl, ap, ◌∙◌, ◌≡◌, ◌<◌, ◌≤◌, IsOk, Some, subst, sym}
use Rattle.tx_engine.specs.inner.KeptCalls.{KeptCalls, Kept, Changes, kept_at, kept_of, calls_in, calls_of}
use Rattle.tx_engine.proofs.Bridge.{tied_written, calls_written, set_none, some_under, call_under, changes_of}
use Rattle.tx_engine.proofs.open_calls.OpenCalls.reserve_hop.Goals as goal

pub invariant_of-self : goal.invariant_of-self
invariant_of-self g c =
    let i = c.self.inside in
    tied_written i.calls c.more_hops.new.calls i.by_number c.self.invariant c.args.self.now c.self.view_is c.args.key (λ k. k) (λ k. refl)
    (λ d e. let r = c.more_hops.ensures d e in (r.0, r.1, r.2)) c.requires

pub returns-clause-changes : goal.returns-clause-changes
returns-clause-changes g c = λ k was.
    let i = c.self.inside in
    let u = call_under i.calls i.by_number c.args.key k (subst (λ (w : KeptCalls). kept_at w c.args.key ≡ Some k) (sym c.self.view_is) was) in
    let r = c.more_hops.ensures u.0 u.1 in (
      (kept_of r.0).room,
      subst (λ (z : KeptCalls). Changes z (calls_of c.more_hops.new.calls i.by_number) c.args.key (Some (record k { room = (kept_of r.0).room }))) c.self.view_is
          (subst (λ z. Changes (calls_of i.calls i.by_number) (calls_of c.more_hops.new.calls i.by_number) c.args.key (Some (record { call = z; room = (kept_of r.0).room })))
          (r.2 ∙ ap (λ (z : Kept). z.call) u.2) (changes_of i.calls c.more_hops.new.calls i.by_number i.by_number c.args.key (Some r.0) r.1)),
      subst (λ (z : Kept). z.room ≤ (kept_of r.0).room) u.2 r.3,
      r.4,
      subst (λ (z : Kept). 0 < z.room → IsOk c.more_hops.result × ((kept_of r.0).room ≡ z.room)) u.2 r.5,
    )

pub returns-clause-calls : goal.returns-clause-calls
returns-clause-calls g c =
    let i = c.self.inside in
    let k = some_under c.args.self.now c.args.key c.requires in
    calls_written i.calls c.more_hops.new.calls i.by_number c.self.invariant c.args.self.now c.self.view_is c.args.key (λ k. k) (λ k. refl)
    (λ d e. let r = c.more_hops.ensures d e in (r.0, r.1, r.2)) k.0 k.1
    ∙ set_none k.0.call.number (calls_in c.args.self.now)
