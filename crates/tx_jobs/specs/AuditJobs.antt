-- What `audit PLAN` answers.
use Rattle.std.specs.Prelude.{◌≡◌, ℕ, Result, Ok, Err}
use Rattle.tx_audit.specs.declared.audited.Audited.{Audited}
use Rattle.tx_audit.specs.declared.audited.AuditFault.{AuditFault}
use Rattle.tx_audit.specs.declared.audited.AuditFault.TheVariants.{Plan, Write as AuditWrite, NoMemory as AuditNoMemory}
use Rattle.tx_audit.specs.Audits.{AuditAnswers}
use Rattle.tx_jobs.specs.declared.job_fault.JobFault.{JobFault}
use Rattle.tx_jobs.specs.declared.job_fault.JobFault.TheVariants.{Write, NoMemory}
use Rattle.tx_jobs.specs.JobFaults.{plan_fault}
use Rattle.tx_text.specs.Ends.{Input, Output}

-- why an audit stopped, as a job reports it
abbrev pub audit_fault : AuditFault → JobFault
audit_fault (Plan f) = plan_fault f
audit_fault AuditWrite = Write
audit_fault AuditNoMemory = NoMemory

-- what an audit answers, as a job reports it
abbrev pub told_audit : {A : Type 0} → Result (Audited A) AuditFault → Result (Audited A) JobFault
told_audit (Ok audited) = Ok audited
told_audit (Err f) = Err (audit_fault f)

-- `audit PLAN --limit L --spare K`
abbrev pub AuditJobAnswers : {A : Type 0} → (limit spare : ℕ)
    → Input → Output → Result (Audited A) JobFault → Type 0
AuditJobAnswers {A} limit spare plan out result = (answer : Result (Audited A) AuditFault)
    × AuditAnswers limit spare plan out answer × (result ≡ told_audit answer)
