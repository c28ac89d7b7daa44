use Rattle.tx_engine.proofs.Common.{◌≡◌, ℕ, Some, None, refl, sym, ap, ◌∙◌, State, end_call, state_of}
use Rattle.tx_machine.specs.declared.cause.Cause.TheVariants.{Lost as ByLoss}
use Rattle.tx_engine.proofs.engine.EngineState.lose_one.Goals as goal

pub returns-in-Some-clause-failed : goal.returns-in-Some-clause-failed
returns-in-Some-clause-failed g c = let f = c.in-Some.ensures.found in ap (λ (s : State). s.failed) (c.end_call.ensures.state f.0 f.1)

pub returns-in-Some-clause-lost : goal.returns-in-Some-clause-lost
returns-in-Some-clause-lost g c = λ d found.
    let n = c.args.self.now in
    let f = c.in-Some.ensures.found in
    (refl, c.end_call.ensures.state f.0 f.1 ∙ ap (λ (z : ℕ). end_call n.plan.now ByLoss z (state_of n)) f.3)

pub returns-in-Some-clause-none : goal.returns-in-Some-clause-none
returns-in-Some-clause-none g c = λ none.
    let f = c.in-Some.ensures.found in
    let bad : Some f.0.call ≡ None = sym f.2 ∙ none in
    let no : ⊥ = cc in
    absurd no

pub returns-in-None-clause-lost : goal.returns-in-None-clause-lost
returns-in-None-clause-lost g c = λ d found.
    let bad : None ≡ Some d = sym c.in-None.ensures.none ∙ found in
    let no : ⊥ = cc in
    absurd no

pub returns-in-None-clause-none : goal.returns-in-None-clause-none
returns-in-None-clause-none g c = λ none. (refl, refl)
