use Rattle.tx_engine.proofs.Common.{◌≡◌, Some, None, subst, ◌∙◌, ap, not, sym, filter, option_map, is_numbered, KeptCalls, Changes, kept_at, calls_in, calls_of, kept_of}
use Rattle.slab.specs.Slab as slab
use Rattle.tx_engine.proofs.Sorted.{tied_after_remove, tied_distinct, after_removal}
use Rattle.tx_engine.proofs.Bridge.{changes_of, kept_is}
use Rattle.tx_engine.proofs.open_calls.OpenCalls.take_out.Goals as goal

pub invariant_of-self : goal.invariant_of-self
invariant_of-self g c =
    let i = c.self.inside in
    let call = c.unwrap-call.result in
    let got : slab.get i.calls c.args.key ≡ Some call = sym c.try_remove.ensures.value ∙ c.unwrap-call.ensures in
    let kept = kept_is i.calls i.by_number c.args.key ∙ ap (option_map kept_of) got in
    tied_after_remove (calls_of i.calls i.by_number) (calls_of c.try_remove.new.self c.swap_remove-key.new.self) i.by_number c.swap_remove-key.new.self call.number c.args.key c.self.invariant
    (c.self.invariant.whole c.args.key (kept_of call) kept) (changes_of i.calls c.try_remove.new.self i.by_number c.swap_remove-key.new.self c.args.key None c.try_remove.ensures.updates) c.swap_remove-key.ensures.updates.0

pub returns-clause-value : goal.returns-clause-value
returns-clause-value g c =
    let i = c.self.inside in
    let got : slab.get i.calls c.args.key ≡ Some c.unwrap-call.result = sym c.try_remove.ensures.value ∙ c.unwrap-call.ensures in
    ap (λ (v : KeptCalls). kept_at v c.args.key) (sym c.self.view_is) ∙ kept_is i.calls i.by_number c.args.key ∙ ap (option_map kept_of) got

pub returns-clause-changes : goal.returns-clause-changes
returns-clause-changes g c =
    let i = c.self.inside in
    subst (λ (v : KeptCalls). Changes v (calls_of c.try_remove.new.self c.swap_remove-key.new.self) c.args.key None) c.self.view_is
    (changes_of i.calls c.try_remove.new.self i.by_number c.swap_remove-key.new.self c.args.key None c.try_remove.ensures.updates)

pub returns-clause-calls : goal.returns-clause-calls
returns-clause-calls g c =
    let i = c.self.inside in
    let call = c.unwrap-call.result in
    let got : slab.get i.calls c.args.key ≡ Some call = sym c.try_remove.ensures.value ∙ c.unwrap-call.ensures in
    let kept = kept_is i.calls i.by_number c.args.key ∙ ap (option_map kept_of) got in
    after_removal (calls_of i.calls i.by_number) (calls_of c.try_remove.new.self c.swap_remove-key.new.self) c.args.key (kept_of call)
    (tied_distinct (calls_of i.calls i.by_number) i.by_number c.self.invariant) (tied_distinct (calls_of c.try_remove.new.self c.swap_remove-key.new.self) c.swap_remove-key.new.self (invariant_of-self g c))
    kept (changes_of i.calls c.try_remove.new.self i.by_number c.swap_remove-key.new.self c.args.key None c.try_remove.ensures.updates)
    ∙ ap (λ (v : KeptCalls). filter (λ k. not (is_numbered call.number k)) (calls_in v)) c.self.view_is
