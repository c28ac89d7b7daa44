-- Refused texts and the sink's mark.
use Rattle.tx_jobs.proofs.Common.{arith, ◌≡◌, ◌∙◌, Bool, Result, Err, refl, sym, ap, FaultAt, FaultKind, exits_with, PlanWord, RunFault, JobFault, audit_fault}
use Rattle.std.specs.Result.{IsErrAnd}
use Rattle.tx_cert.specs.declared.fault.CertWord.{CertWord}
use Rattle.tx_script.specs.declared.script_word.ScriptWord.{ScriptWord}
use Rattle.tx_script.specs.declared.run_cause.RunCause.{RunCause}
use Rattle.tx_script.specs.declared.run_cause.RunCause.TheVariants.{Read as RunRead, Write as RunWrite, Script as RunScript, NoMemory as RunNoMemory}
use Rattle.tx_script.specs.Answers.{mark_by as run_mark_by}
use Rattle.tx_audit.specs.declared.audited.AuditFault.{AuditFault}
use Rattle.tx_audit.specs.declared.audited.AuditFault.TheVariants.{Plan as AuditPlan, Write as AuditWrite, NoMemory as AuditNoMemory}
use Rattle.tx_audit.specs.Audits.{mark_by as audit_mark_by}
use Rattle.tx_jobs.specs.JobFaults.{plan_fault, plan_fault_by, cert_fault, cert_fault_by, script_fault_by, cause_fault, run_fault, mark_by, mark_after}

plan_by : (old : Bool) (f : FaultAt PlanWord) (k : FaultKind PlanWord) → mark_by old (plan_fault_by f k) ≡ old
plan_by old f k = grind arith

-- a refused plan leaves the mark
pub plan_mark : (old : Bool) (f : FaultAt PlanWord) → old ≡ mark_by old (plan_fault f)
plan_mark old f = sym (plan_by old f f.kind)

-- a job that stops at a plan's fault
pub refused : {X : Type 0} (r : Result X JobFault) (f : FaultAt PlanWord)
    → IsErrAnd r (λ y. y ≡ plan_fault f) → r ≡ Err (plan_fault f)
refused r f is = exits_with r (plan_fault f) is

pub refused_mark : {X : Type 0} (old : Bool) (r : Result X JobFault) (f : FaultAt PlanWord)
    → IsErrAnd r (λ y. y ≡ plan_fault f) → old ≡ mark_after old r
refused_mark old r f is =
    plan_mark old f ∙ sym (ap (mark_after old) (refused r f is))

cert_by : (old : Bool) (f : FaultAt CertWord) (k : FaultKind CertWord) → mark_by old (cert_fault_by f k) ≡ old
cert_by old f k = grind arith

-- and so does a refused certificate
pub cert_mark : (old : Bool) (f : FaultAt CertWord) → old ≡ mark_by old (cert_fault f)
cert_mark old f = sym (cert_by old f f.kind)

script_by : (old : Bool) (f : FaultAt ScriptWord) (k : FaultKind ScriptWord) → mark_by old (script_fault_by f k) ≡ old
script_by old f k = grind arith

run_marked : (old : Bool) (c : RunCause) → mark_by old (cause_fault c) ≡ run_mark_by old c
run_marked old RunRead = refl
run_marked old RunWrite = refl
run_marked old RunNoMemory = refl
run_marked old (RunScript f) = script_by old f f.kind

-- a run that stopped leaves the mark that its cause tells
pub run_mark : (old now : Bool) (f : RunFault) → now ≡ run_mark_by old f.cause → now ≡ mark_by old (run_fault f)
run_mark old now f m = m ∙ sym (run_marked old f.cause)

pub audit_marked : (old : Bool) (f : AuditFault) → audit_mark_by old f ≡ mark_by old (audit_fault f)
audit_marked old (AuditPlan f) = plan_mark old f
audit_marked old AuditWrite = refl
audit_marked old AuditNoMemory = refl
