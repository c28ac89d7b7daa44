-- What a run answers where more is printed: each event before its reply, or a summary.
use Rattle.std.specs.Prelude.{◌≡◌, ◌⊎◌, Result}
use Rattle.tx_plan.specs.Plan.{Plan}
use Rattle.tx_machine.specs.State.{State}
use Rattle.tx_script.specs.declared.summary.Summary.{Summary}
use Rattle.tx_script.specs.declared.run_fault.RunFault.{RunFault}
use Rattle.tx_script.specs.declared.teller.Telling.{Telling}
use Rattle.tx_script.specs.TellingAnswers.{TellingAnswers}
use Rattle.tx_audit.specs.Simulated.{from_opening}
use Rattle.tx_jobs.specs.declared.job_fault.JobFault.{JobFault}
use Rattle.tx_text.specs.Ends.{Input, Output}
use Rattle.tx_jobs.specs.Jobs.{PlanRead, PlanRefused, HadNoRoom, told_run}

-- the script was run over a network of the plan, from the opening state, and its events printed
pub record ToldPlan (p : Plan) (t : Telling) (script : Input) (out : Output)
    (result : Result Summary JobFault) : Type 0 where
  pub state : State
  pub answer : Result Summary RunFault
  pub ran : TellingAnswers p t script (from_opening state) out answer
  pub told : result ≡ told_run answer

-- the script was run, or there was no memory for the network
abbrev pub ScriptTold : Plan → Telling → Input → Output → Result Summary JobFault → Type 0
ScriptTold p t script out result =
    ToldPlan p t script out result ⊎ HadNoRoom script out result

-- `run PLAN SCRIPT` with `--strict`, `--echo` or `--summary`
abbrev pub TellingJobAnswers : Telling → (plan script : Input) → Output
    → Result Summary JobFault → Type 0
TellingJobAnswers t plan script out result =
    PlanRead plan (λ p. ScriptTold p t script out result)
    ⊎ PlanRefused plan (script.unread × out.silent) result
