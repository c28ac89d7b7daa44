-- The command `run`.
use Rattle.std.specs.Prelude.{Bool, false, Option, None, Some, String, Result}
use Rattle.tx_text.specs.Ends.{Input, Output}
use Rattle.tx_plan.specs.declared.limits.Limits.{Limits}
use Rattle.tx_jobs.specs.Jobs.{RunJobAnswers}
use Rattle.tx_jobs.specs.CheckedJobs.{CheckedJobAnswers}
use Rattle.tx_jobs.specs.TellingJobs.{TellingJobAnswers}
use Rattle.tx_script.specs.declared.teller.Telling.{Telling}
use Rattle.tx_files.specs.declared.ending.Ending.{Ending}
use Rattle.tx_files.specs.declared.fault.CommandFault.{CommandFault}
use Rattle.tx_files.specs.Ending.{EndsWith}
use Rattle.tx_requests.specs.Jobs.{IsJobDone, checked_status, strict_status}

-- `run PLAN SCRIPT`, after a Yes to a certificate if there is one, which is read before the script
abbrev pub IsRunDone : {A Z : Type 0} → Option (String Z × Limits) → (first second third : Input)
    → Output → (marked_old marked_new : Bool) → Result (Ending A) CommandFault → Type 0
IsRunDone None first second third out old new result = third.unread
    × IsJobDone (RunJobAnswers first second out) (λ summary. EndsWith 0) old new result
IsRunDone (Some (cert, limits)) first second third out old new result = IsJobDone
    (CheckedJobAnswers None limits.limit limits.spare first second third out)
    (λ checked. EndsWith (checked_status false checked)) old new result

-- the same where more is to be printed, or the status is to show whether an event was refused
abbrev pub IsTellingDone : {A Z : Type 0} → Telling → (strict : Bool) → Option (String Z × Limits)
    → (first second third : Input) → Output → (marked_old marked_new : Bool)
    → Result (Ending A) CommandFault → Type 0
IsTellingDone telling strict None first second third out old new result = third.unread
    × IsJobDone (TellingJobAnswers telling first second out)
    (λ summary. EndsWith (strict_status strict summary)) old new result
IsTellingDone telling strict (Some (cert, limits)) first second third out old new result =
    IsJobDone
    (CheckedJobAnswers (Some telling) limits.limit limits.spare first second third out)
    (λ checked. EndsWith (checked_status strict checked)) old new result
