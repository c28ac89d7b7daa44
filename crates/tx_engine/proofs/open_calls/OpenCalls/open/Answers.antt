use Rattle.tx_engine.proofs.Common.{◌<◌, ◌++◌, ◌∷◌, [], Some, OnOk, nat_eq, subst, ap, ◌∙◌, sym, option_map, Call, Among, KeptCalls, Changes, kept_at, calls_in, calls_of, kept_of, call_seen}
use Rattle.indexmap.specs.IndexMap as index
use Rattle.tx_engine.proofs.Sorted.{tied_after_put, absent_above, after_put, calls_rising}
use Rattle.tx_engine.proofs.Bridge.{changes_of, kept_is}
use Rattle.tx_engine.proofs.open_calls.OpenCalls.open.Goals as goal

pub invariant_of-self : goal.invariant_of-self
invariant_of-self g c =
    let i = c.self.inside in
    let key = c.put_in-key.ensures in
    let next = subst (λ (v : KeptCalls). (d : Call) → Among d (calls_in v) → d.number < c.args.call.number) (sym c.self.view_is) c.requires.next in
    let put = subst (λ r. OnOk r (index.Updates nat_eq i.by_number c.insert.new.self c.args.call.number (Some c.put_in-key.result))) c.unwrap-absent.ensures c.insert.ensures.updates in
    tied_after_put (calls_of i.calls i.by_number) (calls_of c.put_in-key.new.calls c.insert.new.self) i.by_number c.insert.new.self c.put_in-key.result (kept_of c.args.call)
    c.self.invariant (kept_is i.calls i.by_number c.put_in-key.result ∙ ap (option_map kept_of) key.was_vacant) (absent_above (calls_of i.calls i.by_number) i.by_number c.args.call.number c.self.invariant next)
    (changes_of i.calls c.put_in-key.new.calls i.by_number c.insert.new.self c.put_in-key.result (Some c.args.call) key.updates) put.0

pub returns-clause-changes : goal.returns-clause-changes
returns-clause-changes g c =
    let i = c.self.inside in
    let key = c.put_in-key.result in (
      key,
      ap (λ (v : KeptCalls). kept_at v key) (sym c.self.view_is) ∙ kept_is i.calls i.by_number key ∙ ap (option_map kept_of) c.put_in-key.ensures.was_vacant,
      subst (λ (v : KeptCalls). Changes v (calls_of c.put_in-key.new.calls c.insert.new.self) key (Some (kept_of c.args.call))) c.self.view_is
          (changes_of i.calls c.put_in-key.new.calls i.by_number c.insert.new.self key (Some c.args.call) c.put_in-key.ensures.updates),
    )

pub returns-clause-calls : goal.returns-clause-calls
returns-clause-calls g c =
    let i = c.self.inside in
    let key = c.put_in-key.ensures in
    let next = subst (λ (v : KeptCalls). (d : Call) → Among d (calls_in v) → d.number < c.args.call.number) (sym c.self.view_is) c.requires.next in
    after_put (calls_of i.calls i.by_number) (calls_of c.put_in-key.new.calls c.insert.new.self) c.put_in-key.result (kept_of c.args.call)
    (calls_rising (calls_of i.calls i.by_number) i.by_number c.self.invariant) (calls_rising (calls_of c.put_in-key.new.calls c.insert.new.self) c.insert.new.self (invariant_of-self g c))
    (kept_is i.calls i.by_number c.put_in-key.result ∙ ap (option_map kept_of) key.was_vacant)
    (changes_of i.calls c.put_in-key.new.calls i.by_number c.insert.new.self c.put_in-key.result (Some c.args.call) key.updates) next
    ∙ ap (λ (v : KeptCalls). calls_in v ++ call_seen c.args.call ∷ []) c.self.view_is
