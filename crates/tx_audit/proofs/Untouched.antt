-- What a run answers that began in the opening state.
use Rattle.tx_audit.proofs.Common.{◌≡◌, ◌∙◌, Result, Ok, Err, subst, inl, Input, Output, Plan, State, opening}
use Rattle.tx_script.specs.declared.summary.Summary.{Summary}
use Rattle.tx_script.specs.declared.run_fault.RunFault.{RunFault}
use Rattle.tx_script.specs.Answers.{States, RunAnswers}
use Rattle.tx_script.proofs.Retold.{run_as}
use Rattle.tx_audit.specs.Simulated.{RanFromOpening, Simulated}

module _ (p : Plan) (script : Input) (out : Output) where
  pub ran_from_opening : (net : States) → net.old ≡ opening 0 0 → (net.unchanged → net.new ≡ net.old)
      → (answer : Result Summary RunFault) → RunAnswers p script net out answer
      → RanFromOpening p script out answer
  ran_from_opening net opened same answer ran =
      let E : Type 0 = net.new ≡ opening 0 0 in
      let from : State → States = λ s. record { old = s; new = net.new; unchanged = E } in
      let told : RunAnswers p script (from net.old) out answer =
      run_as p script net out script.broken script.unread E (λ b. b) (λ u. u) (λ u. same u ∙ opened) answer ran in
      record { state = net.new; ran = subst (λ s. RunAnswers p script (from s) out answer) opened told }

  pub simulated_by : (answer : Result Summary RunFault) → RanFromOpening p script out answer → Simulated p script out answer
  simulated_by (Ok summary) h = h
  simulated_by (Err f) h = inl h
