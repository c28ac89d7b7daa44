use Rattle.tx_engine.proofs.Common.{◌≡◌, ◌∷◌, [], true, Some, is_some, sym, ap, ◌∙◌, subst, uses, AreNumbersOf, Kept, kept_at, kept_of, calls_in}
use Rattle.tx_engine.proofs.Users.{carrier_alone}
use Rattle.tx_engine.proofs.Leading.{carrier_found}
use Rattle.tx_engine.proofs.engine.EngineState.carrier.Goals as goal

pub at-requires : goal.at-requires
at-requires g c =
    let n = c.args.self.now in
    let x = c.args.circuit.now in
    let f = carrier_found n.plan.now n.calls n.keys c.requires.sound.keyed x (sym (c.requires.sound.together.used.carried x) ∙ c.requires.carried) true in
    ap is_some (ap (kept_at n.calls) c.get.ensures ∙ f.1)

pub returns : goal.returns
returns g c =
    let n = c.args.self.now in
    let x = c.args.circuit.now in
    let f = carrier_found n.plan.now n.calls n.keys c.requires.sound.keyed x (sym (c.requires.sound.together.used.carried x) ∙ c.requires.carried) true in
    let both : Some f.0 ≡ Some (kept_of c.at.result.now) = sym (ap (kept_at n.calls) c.get.ensures ∙ f.1) ∙ c.at.ensures in
    let same : f.0 ≡ kept_of c.at.result.now = cc in
    subst (λ (z : Kept). AreNumbersOf (λ d. uses d x) (calls_in n.calls) (z.call.number ∷ [])) same (carrier_alone n.plan.now (calls_in n.calls) n.circuits.releasing n.numbers c.requires.sound.together.inv x f.0.call f.2 f.3)
