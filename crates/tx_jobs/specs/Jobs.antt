-- What jobs answer: what their calls do, one after another, and the fault of the first that fails.
use Rattle.std.specs.Prelude.{◌≡◌, ◌⊎◌, ℕ, Option, Result, Ok, Err}
use Rattle.tx_text.specs.declared.frame.FaultAt.{FaultAt}
use Rattle.tx_plan.specs.Plan.{Plan}
use Rattle.tx_plan.specs.Rules.{IsPlan}
use Rattle.tx_plan.specs.Ambiguous.{ambiguous_of}
use Rattle.tx_trie.specs.CodesText.{codes_text}
use Rattle.tx_text.specs.Ends.{StopsIn, Input, Output}
use Rattle.std.specs.Io.KnownBytes.{append_known}
use Rattle.tx_plantext.specs.declared.fault.PlanWord.{PlanWord}
use Rattle.tx_plantext.specs.PlanText.{SaysPlan, ReadsPlan}
use Rattle.tx_script.specs.declared.summary.Summary.{Summary}
use Rattle.tx_script.specs.declared.run_fault.RunFault.{RunFault}
use Rattle.tx_audit.specs.Simulated.{RanFromOpening}
use Rattle.tx_jobs.specs.declared.job_fault.JobFault.{JobFault}
use Rattle.tx_jobs.specs.declared.job_fault.JobFault.TheVariants.{Write, NoMemory}
use Rattle.tx_jobs.specs.JobFaults.{plan_fault, run_fault}

-- what a run answers, as a job reports it
abbrev pub told_run : Result Summary RunFault → Result Summary JobFault
told_run (Ok summary) = Ok summary
told_run (Err f) = Err (run_fault f)

-- the script was run over a network of the plan, from the opening state
pub record RanPlan (p : Plan) (script : Input)
    (out : Output) (result : Result Summary JobFault) : Type 0 where
  pub answer : Result Summary RunFault
  pub ran : RanFromOpening p script out answer
  pub told : result ≡ told_run answer

-- there was no memory for the network, and nothing was read or written
abbrev pub HadNoRoom : Input → Output → Result Summary JobFault → Type 0
HadNoRoom script out result = (result ≡ Err NoMemory) × script.unread × out.silent

-- the script was run, or there was no memory for the network
abbrev pub ScriptRan : Plan → Input → Output → Result Summary JobFault → Type 0
ScriptRan p script out result = RanPlan p script out result ⊎ HadNoRoom script out result

-- the plan was read, and then the script was run
pub record PlanRead (text : Input) (after : Plan → Type 0) : Type 0 where
  pub plan : Plan
  pub rules : IsPlan plan
  pub read : SaysPlan text plan
  pub goes_on : after plan

-- the plan was refused, and nothing else was read or written
pub record PlanRefused {X : Type 0} (text : Input)
    (untouched : Type 0) (result : Result X JobFault) : Type 0 where
  pub fault : FaultAt PlanWord
  pub read : ReadsPlan text (Err (fault.line, fault.kind))
  pub told : result ≡ Err (plan_fault fault)
  pub rest : untouched

-- `run PLAN SCRIPT`
abbrev pub RunJobAnswers : (plan script : Input) → Output → Result Summary JobFault → Type 0
RunJobAnswers plan script out result = PlanRead plan (λ p. ScriptRan p script out result)
    ⊎ PlanRefused plan (script.unread × out.silent) result

-- `codes PLAN`: the codes and the least ambiguous pair were written, and that pair is the answer
abbrev pub ToldCodes : Plan → Output → Result (Option (ℕ × ℕ)) JobFault → Type 0
ToldCodes p out (Ok pair) = (pair ≡ ambiguous_of p.codes)
    × (out.new ≡ append_known out.old (codes_text p))
ToldCodes p out (Err Write) = StopsIn out.old out.new (codes_text p)
ToldCodes p out (Err NoMemory) = out.silent
ToldCodes p out (Err other) = ⊥

-- `codes PLAN`: the plan was read and its codes were written, or it was refused
abbrev pub CodesJobAnswers : Input → Output → Result (Option (ℕ × ℕ)) JobFault → Type 0
CodesJobAnswers plan out result = PlanRead plan (λ p. ToldCodes p out result)
    ⊎ PlanRefused plan out.silent result
