-- Commands that are done by a job.
use Rattle.std.specs.Prelude.{◌≡◌, ℕ, Bool, not, ◌&&◌, ◌==◌, if◌then◌else◌, Option, is_some, Result, Ok, Err}
use Rattle.tx_check.specs.declared.verdict.Verdict.{Verdict}
use Rattle.tx_check.specs.declared.verdict.Verdict.TheVariants.{Yes, No}
use Rattle.tx_script.specs.declared.summary.Summary.{Summary}
use Rattle.tx_audit.specs.declared.checked.Checked.{Checked}
use Rattle.tx_audit.specs.declared.checked.Checked.TheVariants.{Ran, Denied}
use Rattle.tx_jobs.specs.declared.job_fault.JobFault.{JobFault}
use Rattle.tx_jobs.specs.JobFaults.{mark_after}
use Rattle.tx_files.specs.declared.ending.Ending.{Ending}
use Rattle.tx_files.specs.declared.fault.CommandFault.{CommandFault}
use Rattle.tx_files.specs.declared.fault.CommandFault.TheVariants.{Job}

module _ {A X : Type 0} (answers : Result X JobFault → Type 0)
    (ends : X → Result (Ending A) CommandFault → Type 0) (marked_old marked_new : Bool) where
  -- so it ends after the job
  abbrev pub EndsJob : Result X JobFault → Result (Ending A) CommandFault → Type 0
  EndsJob (Ok x) result = ends x result
  EndsJob (Err fault) result = result ≡ Err (Job fault)

  -- the job answered this, and that is what the command came to
  pub record IsJobDone (result : Result (Ending A) CommandFault) : Type 0 where
    pub answer : Result X JobFault
    pub by : answers answer
    pub mark : marked_new ≡ mark_after marked_old answer
    pub ended : EndsJob answer result

-- the exit status of a certificate that was checked
abbrev pub verdict_status : Verdict → ℕ
verdict_status Yes = 0
verdict_status (No fault) = 1

-- where codes were listed: of the least pair of which one begins the other, if there is one
abbrev pub pair_status : Option (ℕ × ℕ) → ℕ
pair_status pair = if is_some pair then 1 else 0

-- of a run that is to show whether an event was refused
abbrev pub strict_status : (strict : Bool) → Summary → ℕ
strict_status strict summary = if strict && not (summary.refused == 0) then 1 else 0

-- of a run after a check
abbrev pub checked_status : (strict : Bool) → Checked → ℕ
checked_status strict (Ran summary) = strict_status strict summary
checked_status strict (Denied fault) = 1
