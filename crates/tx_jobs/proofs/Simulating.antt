-- The answer of a run over the engine, as a job tells it.
use Rattle.tx_jobs.proofs.Common.{◌≡◌, ◌∙◌, Result, Ok, Err, inl, inr, ap, Plan, Summary, RunFault, JobFault, run_fault, Input, Output, ScriptRan, told_run}
use Rattle.tx_audit.specs.Simulated.{Simulated}

module _ (p : Plan) (script : Input) (out : Output) where
  pub ran_as : (answer : Result Summary RunFault) (told : Result Summary JobFault) → told ≡ told_run answer → Simulated p script out answer → ScriptRan p script out told
  ran_as (Ok summary) told by h = inl (record { answer = Ok summary; ran = h; told = by })
  ran_as (Err f) told by (inl h) = inl (record { answer = Err f; ran = h; told = by })
  ran_as (Err f) told by (inr h) = inr (by ∙ ap (λ (q : RunFault). Err (run_fault q)) h.0, h.1.0, h.1.1)
