-- Why jobs stop, and what is reported of it.
use Rattle.std.specs.Prelude.{ℕ, Bool, true, List, ◌++◌, Result, Ok, Err, codes, decimal}
use Rattle.tx_text.specs.declared.frame.FrameFault.TheVariants.{Read as LineRead, NoMemory as TextNoMemory}
use Rattle.tx_text.specs.declared.frame.FaultAt.{FaultAt}
use Rattle.tx_text.specs.declared.frame.FaultKind.{FaultKind}
use Rattle.tx_text.specs.declared.frame.FaultKind.TheVariants.{Frame, Word}
use Rattle.tx_plan.specs.declared.refusal.PlanRefusal.TheVariants.{NoMemory as PlanNoMemory}
use Rattle.tx_plantext.specs.declared.fault.PlanWord.{PlanWord}
use Rattle.tx_plantext.specs.declared.fault.PlanWord.TheVariants.{Refused}
use Rattle.tx_plantext.specs.PlanFaults.{fault_row as plan_row}
use Rattle.tx_cert.specs.declared.fault.CertWord.{CertWord}
use Rattle.tx_cert.specs.declared.fault.CertWord.TheVariants.{NoMemory as CertNoMemory}
use Rattle.tx_cert.specs.CertFaults.{fault_row as cert_row}
use Rattle.tx_script.specs.declared.script_word.ScriptWord.{ScriptWord}
use Rattle.tx_script.specs.declared.run_fault.RunFault.{RunFault}
use Rattle.tx_script.specs.declared.run_cause.RunCause.{RunCause}
use Rattle.tx_script.specs.declared.run_cause.RunCause.TheVariants.{Read as RunRead, Write as RunWrite, Script as RunScript, NoMemory as RunNoMemory}
use Rattle.tx_script.specs.ScriptFaults.{fault_row as script_row}
use Rattle.tx_jobs.specs.declared.job_fault.JobFault.{JobFault}
use Rattle.tx_jobs.specs.declared.job_fault.JobFault.TheVariants.{Plan, Cert, Script, Read, Write, NoMemory}

-- 2 for a refused text, 3 for a read or a write fault, 4 when memory runs out
abbrev pub status_of : JobFault → ℕ
status_of (Plan f) = 2
status_of (Cert f) = 2
status_of (Script f) = 2
status_of Read = 3
status_of Write = 3
status_of NoMemory = 4

-- A failure to read and a lack of memory are reported as such.
abbrev pub plan_fault_by : FaultAt PlanWord → FaultKind PlanWord → JobFault
plan_fault_by f (Frame LineRead) = Read
plan_fault_by f (Frame TextNoMemory) = NoMemory
plan_fault_by f (Word (Refused PlanNoMemory)) = NoMemory
plan_fault_by f k = Plan f

-- a fault of the plan's text, as a job reports it
abbrev pub plan_fault : FaultAt PlanWord → JobFault
plan_fault f = plan_fault_by f f.kind

-- a fault of the certificate's text, by its kind
abbrev pub cert_fault_by : FaultAt CertWord → FaultKind CertWord → JobFault
cert_fault_by f (Frame LineRead) = Read
cert_fault_by f (Frame TextNoMemory) = NoMemory
cert_fault_by f (Word CertNoMemory) = NoMemory
cert_fault_by f k = Cert f

-- a fault of the certificate's text, as a job reports it
abbrev pub cert_fault : FaultAt CertWord → JobFault
cert_fault f = cert_fault_by f f.kind

-- a fault of the script's text, by its kind; a failure to read is no fault of it
abbrev pub script_fault_by : FaultAt ScriptWord → FaultKind ScriptWord → JobFault
script_fault_by f (Frame TextNoMemory) = NoMemory
script_fault_by f k = Script f

-- a fault of the script's text, as a job reports it
abbrev pub script_fault : FaultAt ScriptWord → JobFault
script_fault f = script_fault_by f f.kind

-- why a run stopped, by its cause
abbrev pub cause_fault : RunCause → JobFault
cause_fault RunRead = Read
cause_fault RunWrite = Write
cause_fault RunNoMemory = NoMemory
cause_fault (RunScript f) = script_fault f

-- why a run stopped, as a job reports it
abbrev pub run_fault : RunFault → JobFault
run_fault f = cause_fault f.cause

-- the sink's mark after a fault: set where a write fault is reported, and otherwise as before
abbrev pub mark_by : Bool → JobFault → Bool
mark_by old Write = true
mark_by old other = old

-- the sink's mark after a job: as before where it answers Ok
abbrev pub mark_after : {X : Type 0} → Bool → Result X JobFault → Bool
mark_after old (Ok x) = old
mark_after old (Err f) = mark_by old f

-- the line of a fault of a text: which text it is, the number of the text's line, a code and a name
abbrev pub text_fault_line : List ℕ → ℕ → List ℕ × List ℕ → List ℕ
text_fault_line text n row = codes "telexplan: " ++ (text ++ (codes " line "
    ++ (decimal n ++ (codes ": " ++ (row.0 ++ (codes " " ++ (row.1 ++ codes "\n")))))))

-- the line that says why a job stopped
abbrev pub fault_line : JobFault → List ℕ
fault_line (Plan f) = text_fault_line (codes "plan") f.line (plan_row f.kind)
fault_line (Cert f) = text_fault_line (codes "certificate") f.line (cert_row f.kind)
fault_line (Script f) = text_fault_line (codes "script") f.line (script_row f.kind)
fault_line Read = codes "telexplan: read fault\n"
fault_line Write = codes "telexplan: write fault\n"
fault_line NoMemory = codes "telexplan: no memory\n"
