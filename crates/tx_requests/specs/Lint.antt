-- What `lint PLAN` and `lint PLAN --risks FILE` answer.
use Rattle.std.specs.Prelude.{◌≡◌, ◌⊎◌, ℕ, Bool, true, false, List, [], ◌∷◌, None, is_some, string_bytes, Result, Ok, Err}
use Rattle.std.specs.Io.KnownBytes.{append_known}
use Rattle.tx_text.specs.Ends.{StopsIn, Input, Output, IsWholeText}
use Rattle.tx_plan.specs.Plan.{Plan}
use Rattle.tx_risk.specs.NamedRisks.{NamedRisk, AreRisksFor}
use Rattle.tx_lint.specs.declared.entry.Entry.{Entry}
use Rattle.tx_lint.specs.AllFaults.{Fault, Progress, faults_of, progress_of}
use Rattle.tx_lint.specs.Gathered.{told_of}
use Rattle.tx_lint.specs.Lints.{Lint, Faults, AreWarningsOf, IsLintOf, lint_text, lint_status}
use Rattle.tx_risk.specs.RiskText.{ReadsRisks}
use Rattle.tx_jobs.specs.declared.job_fault.JobFault.TheVariants.{Read, Write, NoMemory}
use Rattle.tx_commands.specs.declared.lint.LintRequest.{LintRequest}
use Rattle.tx_files.specs.declared.ending.Ending.{Ending}
use Rattle.tx_files.specs.declared.fault.CommandFault.{CommandFault}
use Rattle.tx_files.specs.declared.fault.CommandFault.TheVariants.{Job}
use Rattle.tx_files.specs.Faults.{memory_stop, fault_mark}
use Rattle.tx_files.specs.Reading.{RisksRefused}

-- the input failed
abbrev pub read_stop : CommandFault
read_stop = Job Read

-- all lines were written, and their status is the answer; or a front of them, and the sink failed
abbrev pub ToldLint : (file : List ℕ) → Lint → Output → Result ℕ CommandFault → Type 0
ToldLint file l out (Ok status) =
    (status ≡ lint_status l) × (out.new ≡ append_known out.old (lint_text file l))
ToldLint file l out (Err (Job Write)) = StopsIn out.old out.new (lint_text file l)
ToldLint file l out (Err other) = ⊥

-- the text was looked through, with these risks
pub record Linted (text : List ℕ) (risks : List NamedRisk) (file : List ℕ) (out : Output)
    (result : Result ℕ CommandFault) : Type 0 where
  pub lint : Lint
  pub is : IsLintOf text risks lint
  pub told : ToldLint file lint out result

-- it was, or there was no memory for that, and nothing was written
abbrev pub LintedInRoom : (text : List ℕ) → List NamedRisk → (file : List ℕ) → Output
    → Result ℕ CommandFault → Type 0
LintedInRoom text risks file out result =
    Linted text risks file out result ⊎ ((result ≡ Err memory_stop) × out.silent)

-- the text was read to its end, and then looked through
pub record TextRead (plan : Input) (after : List ℕ → Type 0) : Type 0 where
  pub text : List ℕ
  pub whole : IsWholeText plan.old plan.new text
  pub goes_on : after text

-- the text could not be read to its end, or there was no memory for it; nothing was written
abbrev pub NotRead : {X : Type 0} → Input → Output → Result X CommandFault → Type 0
NotRead plan out (Ok x) = ⊥
NotRead plan out (Err (Job Read)) = plan.broken × out.silent
NotRead plan out (Err (Job NoMemory)) = out.silent
NotRead plan out (Err other) = ⊥

-- `lint PLAN`, by the words for the file of the plan
abbrev pub LintAnswers : (file : List ℕ) → Input → Output → Result ℕ CommandFault → Type 0
LintAnswers file plan out result =
    TextRead plan (λ text. LintedInRoom text [] file out result) ⊎ NotRead plan out result

-- the warnings of a plan with these entries, with these risks
pub record Warned (text : Plan × List (ℕ × Entry)) (risks : List NamedRisk) (file : List ℕ)
    (out : Output) (result : Result ℕ CommandFault) : Type 0 where
  pub lint : Lint
  pub is : AreWarningsOf text.0 text.1 risks lint
  pub told : ToldLint file lint out result

-- the named risks of a plan were read, and its warnings written, unless there was no memory for
-- them; or the risks were refused
abbrev pub WarnedWithRisks : Plan × List (ℕ × Entry) → (file : List ℕ) → Input → Output
    → Result ℕ CommandFault → Type 0
WarnedWithRisks text file risks out result =
    ((rs : List NamedRisk) × AreRisksFor text.0 rs × ReadsRisks text.0 risks (Ok rs)
    × (Warned text rs file out result ⊎ ((result ≡ Err memory_stop) × out.silent)))
    ⊎ ((fault : CommandFault) × RisksRefused text.0 risks fault × (result ≡ Err fault)
    × out.silent)

-- a text with these faults, of which this was read, was looked through: only where it has none,
-- the risks are read
abbrev pub LookedThrough : List Fault → Progress → (file : List ℕ) → Input → Output
    → Result ℕ CommandFault → Type 0
LookedThrough [] s file risks out result = WarnedWithRisks (s.plan, s.entries) file risks out result
LookedThrough (f ∷ fs) s file risks out result =
    ToldLint file (Faults (told_of (f ∷ fs))) out result × risks.unread

-- it was, or there was no memory for that, and nothing was written
abbrev pub LookedInRoom : (text file : List ℕ) → Input → Output → Result ℕ CommandFault → Type 0
LookedInRoom text file risks out result =
    LookedThrough (faults_of text) (progress_of text) file risks out result
    ⊎ ((result ≡ Err memory_stop) × out.silent × risks.unread)

-- `lint PLAN --risks FILE`
abbrev pub LintRisksAnswers : (file : List ℕ) → (plan risks : Input) → Output
    → Result ℕ CommandFault → Type 0
LintRisksAnswers file plan risks out result =
    TextRead plan (λ text. LookedInRoom text file risks out result)
    ⊎ (NotRead plan out result × risks.unread)

-- one of these, by what is asked for
abbrev pub LintAnswersBy : (named : Bool) → (file : List ℕ) → (plan risks : Input) → Output
    → Result ℕ CommandFault → Type 0
LintAnswersBy true file plan risks out result = LintRisksAnswers file plan risks out result
LintAnswersBy false file plan risks out result = LintAnswers file plan out result × risks.unread

-- with this status, or for this reason
abbrev pub EndsLint : {A : Type 0} → Result ℕ CommandFault → Result (Ending A) CommandFault → Type 0
EndsLint (Ok status) (Ok e) = (e.status ≡ status) × (e.made ≡ None)
EndsLint (Err fault) (Err e) = e ≡ fault
EndsLint answer result = ⊥

-- the text was looked through, and that is what the command came to
pub record IsLinted {A : Type 0} (r : LintRequest) (plan risks : Input) (out : Output)
    (marked_old marked_new : Bool) (result : Result (Ending A) CommandFault) : Type 0 where
  pub answer : Result ℕ CommandFault
  pub by : LintAnswersBy (is_some r.risks) (string_bytes r.plan) plan risks out answer
  pub mark : marked_new ≡ fault_mark marked_old answer
  pub ended : EndsLint answer result
