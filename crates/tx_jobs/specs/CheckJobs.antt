-- What `check PLAN CERT` answers: what its calls do, one after another.
use Rattle.std.specs.Prelude.{◌≡◌, ◌⊎◌, ℕ, Result, Ok, Err}
use Rattle.std.specs.Io.KnownBytes.{append_known}
use Rattle.tx_text.specs.Ends.{StopsIn, Input, Output}
use Rattle.tx_text.specs.declared.frame.FaultAt.{FaultAt}
use Rattle.tx_plan.specs.Plan.{Plan}
use Rattle.tx_machine.specs.Sound.{IsSound}
use Rattle.tx_cert.specs.declared.fault.CertWord.{CertWord}
use Rattle.tx_cert.specs.Certificate.{Certificate, IsCertificateOf}
use Rattle.tx_cert.specs.CertText.{SaysCert, ReadsCert}
use Rattle.tx_check.specs.declared.verdict.Verdict.{Verdict}
use Rattle.tx_check.specs.declared.verdict.Verdict.TheVariants.{Yes}
use Rattle.tx_check.specs.Checks.{check_faults, ranks_for, verdict_of}
use Rattle.tx_check.specs.Verdicts.{verdict_written}
use Rattle.tx_jobs.specs.declared.job_fault.JobFault.{JobFault}
use Rattle.tx_jobs.specs.declared.job_fault.JobFault.TheVariants.{Write}
use Rattle.tx_jobs.specs.JobFaults.{cert_fault}
use Rattle.tx_jobs.specs.Jobs.{PlanRead, PlanRefused}

-- the checker's verdict
abbrev pub verdict_for : Plan → Certificate → (limit spare : ℕ) → Verdict
verdict_for p t limit spare = verdict_of (check_faults p (ranks_for p t) limit spare)

-- the verdict was written, and is the answer; after a Yes the plan is sound
abbrev pub ToldVerdict : Plan → Certificate → (limit spare : ℕ)
    → Output → Result Verdict JobFault → Type 0
ToldVerdict p t limit spare out (Ok v) = (v ≡ verdict_for p t limit spare)
    × (out.new ≡ append_known out.old (verdict_written p v)) × (v ≡ Yes → IsSound p limit spare)
ToldVerdict p t limit spare out (Err Write) =
    StopsIn out.old out.new (verdict_written p (verdict_for p t limit spare))
ToldVerdict p t limit spare out (Err other) = ⊥

-- the certificate was read, and then checked
pub record CertRead (p : Plan) (text : Input) (after : Certificate → Type 0) : Type 0 where
  pub cert : Certificate
  pub fits : IsCertificateOf p cert
  pub read : SaysCert p text cert
  pub goes_on : after cert

-- the certificate was refused, and nothing else was read or written
pub record CertRefused {X : Type 0} (p : Plan)
    (text : Input) (untouched : Type 0) (result : Result X JobFault) : Type 0 where
  pub fault : FaultAt CertWord
  pub read : ReadsCert p text (Err (fault.line, fault.kind))
  pub told : result ≡ Err (cert_fault fault)
  pub rest : untouched

-- the certificate was read and checked, or it was refused
abbrev pub CheckAnswers : Plan → (limit spare : ℕ)
    → Input → Output → Result Verdict JobFault → Type 0
CheckAnswers p limit spare cert out result = CertRead p cert
    (λ t. ToldVerdict p t limit spare out result) ⊎ CertRefused p cert out.silent result

-- `check PLAN CERT --limit L --spare K`
abbrev pub CheckJobAnswers : (limit spare : ℕ)
    → (plan cert : Input) → Output → Result Verdict JobFault → Type 0
CheckJobAnswers limit spare plan cert out result = PlanRead plan (λ p.
    CheckAnswers p limit spare cert out result) ⊎ PlanRefused plan (cert.unread × out.silent) result
