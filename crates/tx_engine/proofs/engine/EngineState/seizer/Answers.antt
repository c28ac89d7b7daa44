use Rattle.tx_engine.proofs.Common.{◌≡◌, ℕ, ◌==◌, ◌∷◌, [], Some, is_some, sym, ap, ◌∙◌, subst, seizes_from, AreNumbersOf, Kept, kept_at, kept_of, calls_in, keys_of, pick}
use Rattle.tx_engine.proofs.Users.{seizer_alone}
use Rattle.tx_engine.proofs.Leading.{seizer_found}
use Rattle.tx_engine.proofs.engine.EngineState.seizer.Goals as goal

pub at-requires : goal.at-requires
at-requires g c =
    let n = c.args.self.now in
    let x = c.args.circuit.now in
    let f = seizer_found n.plan.now n.calls n.keys c.requires.sound.keyed x c.args.exchange (sym (c.requires.sound.together.used.seized x c.args.exchange) ∙ c.requires.seized) in
    let led = ap (kept_at n.calls) (c.get.ensures ∙ ap (λ z. pick z (keys_of n.keys x)) (c.eq.ensures ∙ ap (λ (z : ℕ × ℕ). z.0 == c.args.exchange) c.ends-first.ensures)) ∙ f.1 in
    ap is_some led

pub returns : goal.returns
returns g c =
    let n = c.args.self.now in
    let x = c.args.circuit.now in
    let f = seizer_found n.plan.now n.calls n.keys c.requires.sound.keyed x c.args.exchange (sym (c.requires.sound.together.used.seized x c.args.exchange) ∙ c.requires.seized) in
    let led = ap (kept_at n.calls) (c.get.ensures ∙ ap (λ z. pick z (keys_of n.keys x)) (c.eq.ensures ∙ ap (λ (z : ℕ × ℕ). z.0 == c.args.exchange) c.ends-first.ensures)) ∙ f.1 in
    let both : Some f.0 ≡ Some (kept_of c.at.result.now) = sym led ∙ c.at.ensures in
    let same : f.0 ≡ kept_of c.at.result.now = cc in
    subst (λ (z : Kept). AreNumbersOf (λ d. seizes_from n.plan.now d x c.args.exchange) (calls_in n.calls) (z.call.number ∷ [])) same (seizer_alone n.plan.now (calls_in n.calls) n.circuits.releasing n.numbers c.requires.sound.together.inv x f.0.call c.args.exchange f.2 f.3)
