-- What `run PLAN SCRIPT --cert CERT` answers.
use Rattle.std.specs.Prelude.{◌≡◌, ◌⊎◌, ℕ, Option, None, Some, Result, Ok, Err}
use Rattle.std.specs.Io.KnownBytes.{append_known}
use Rattle.tx_text.specs.Ends.{StopsIn, Input, Output}
use Rattle.tx_plan.specs.Plan.{Plan}
use Rattle.tx_cert.specs.Certificate.{Certificate}
use Rattle.tx_check.specs.declared.fault.CheckFault.{CheckFault}
use Rattle.tx_check.specs.declared.verdict.Verdict.TheVariants.{No}
use Rattle.tx_check.specs.Verdicts.{verdict_written}
use Rattle.tx_script.specs.declared.summary.Summary.{Summary}
use Rattle.tx_script.specs.declared.teller.Telling.{Telling}
use Rattle.tx_audit.specs.declared.checked.Checked.{Checked}
use Rattle.tx_audit.specs.declared.checked.Checked.TheVariants.{Ran, Denied}
use Rattle.tx_audit.specs.CheckedRuns.{IsAllowed}
use Rattle.tx_jobs.specs.declared.job_fault.JobFault.{JobFault}
use Rattle.tx_jobs.specs.declared.job_fault.JobFault.TheVariants.{Write}
use Rattle.tx_jobs.specs.Jobs.{PlanRead, PlanRefused, ScriptRan}
use Rattle.tx_jobs.specs.CheckJobs.{CertRead, CertRefused, verdict_for}
use Rattle.tx_jobs.specs.TellingJobs.{ScriptTold}

-- the script was run, and its events printed if that is asked for
abbrev pub ScriptDone : Option Telling → Plan → Input → Output → Result Summary JobFault → Type 0
ScriptDone None p script out result = ScriptRan p script out result
ScriptDone (Some telling) p script out result = ScriptTold p telling script out result

-- The checker said No, and the verdict could not be written.
pub record VerdictStopped (p : Plan) (t : Certificate)
    (limit spare : ℕ) (script : Input) (out : Output) (fault : JobFault) : Type 0 where
  pub reason : CheckFault
  pub denied : verdict_for p t limit spare ≡ No reason
  pub front : StopsIn out.old out.new (verdict_written p (No reason))
  pub rest : script.unread
  pub told : fault ≡ Write

module _ (telling : Option Telling) where
  -- After a Yes the script was run. After a No the verdict was written, and nothing of the script
  -- was read.
  abbrev pub ToldRun : Plan → Certificate → (limit spare : ℕ)
      → Input → Output → Result Checked JobFault → Type 0
  ToldRun p t limit spare script out (Ok (Ran summary)) =
      IsAllowed p t limit spare × ScriptDone telling p script out (Ok summary)
  ToldRun p t limit spare script out (Ok (Denied f)) = (verdict_for p t limit spare ≡ No f)
      × (out.new ≡ append_known out.old (verdict_written p (No f))) × script.unread
  ToldRun p t limit spare script out (Err fault) =
      (IsAllowed p t limit spare × ScriptDone telling p script out (Err fault))
      ⊎ VerdictStopped p t limit spare script out fault

  -- the certificate was read and the script run after a Yes, or the certificate was refused
  abbrev pub CertAnswers : Plan → (limit spare : ℕ)
      → (cert script : Input) → Output → Result Checked JobFault → Type 0
  CertAnswers p limit spare cert script out result =
      CertRead p cert (λ t. ToldRun p t limit spare script out result)
      ⊎ CertRefused p cert (script.unread × out.silent) result

  -- `run PLAN SCRIPT --cert CERT --limit L --spare K`
  abbrev pub CheckedJobAnswers : (limit spare : ℕ)
      → (plan cert script : Input) → Output → Result Checked JobFault → Type 0
  CheckedJobAnswers limit spare plan cert script out result =
      PlanRead plan (λ p. CertAnswers p limit spare cert script out result)
      ⊎ PlanRefused plan (cert.unread × script.unread × out.silent) result
