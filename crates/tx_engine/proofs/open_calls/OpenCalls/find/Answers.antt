use Rattle.tx_engine.proofs.Common.{◌≡◌, Some, None, sym, subst, call_of, KeptCalls, Kept, kept_at, calls_in, calls_of}
use Rattle.tx_engine.proofs.Sorted.{found_at, none_at}
use Rattle.tx_engine.proofs.open_calls.OpenCalls.find.Goals as goal

pub returns-in-Some-clause-found : goal.returns-in-Some-clause-found
returns-in-Some-clause-found g c =
    let i = c.self.inside in
    subst (λ (v : KeptCalls). (k : Kept) × (kept_at v c.in-Some.key.now ≡ Some k) × (call_of c.args.number (calls_in v) ≡ Some k.call) × (k.call.number ≡ c.args.number)) c.self.view_is
    (found_at (calls_of i.calls i.by_number) i.by_number c.self.invariant c.args.number c.in-Some.key.now (sym c.in-Some.ensures.value))

pub returns-in-None-clause-none : goal.returns-in-None-clause-none
returns-in-None-clause-none g c =
    let i = c.self.inside in
    subst (λ (v : KeptCalls). call_of c.args.number (calls_in v) ≡ None) c.self.view_is (none_at (calls_of i.calls i.by_number) i.by_number c.self.invariant c.args.number (sym c.in-None.ensures.value))
