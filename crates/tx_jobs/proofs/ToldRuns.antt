-- What a run that tells its events answers from the opening state, as a job tells it.
use Rattle.tx_jobs.proofs.Common.{◌≡◌, ◌∙◌, ap, Result, subst, Input, Output, Plan, Summary, RunFault, JobFault, told_run}
use Rattle.tx_machine.specs.State.{State, opening}
use Rattle.tx_script.specs.declared.teller.Telling.{Telling}
use Rattle.tx_script.specs.Answers.{States, states}
use Rattle.tx_script.specs.TellingAnswers.{TellingAnswers}
use Rattle.tx_script.proofs.Retold.{telling_as}
use Rattle.tx_jobs.specs.TellingJobs.{ToldPlan}

-- the network with which the run began was in the opening state
pub told_plan : {p : Plan} {t : Telling} {script : Input} {out : Output} {N : Type 0}
    (state : N → State) (old new : N) (r : Result Summary RunFault)
    (result : Result Summary JobFault)
    → TellingAnswers p t script (states state old new) out r
    → state old ≡ opening 0 0 → result ≡ told_run r → ToldPlan p t script out result
told_plan {p} {t} {script} {out} {N} state old new r result ran opened told =
    let E : Type 0 = state new ≡ opening 0 0 in
    let from : State → States = λ s. record { old = s; new = state new; unchanged = E } in
    let all : TellingAnswers p t script (from (state old)) out r =
    telling_as p script (states state old new) out script.broken script.unread E
    (λ b. b) (λ u. u) (λ u. ap state u ∙ opened) t r ran in
    record {
      state = state new;
      answer = r;
      ran = subst (λ s. TellingAnswers p t script (from s) out r) opened all;
      told = told;
    }
