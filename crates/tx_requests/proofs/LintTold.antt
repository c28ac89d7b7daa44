-- Why a text was not looked through, and what was told of one that was.
use Rattle.tx_requests.proofs.Common.{◌≡◌, ◌≢◌, ℕ, Bool, true, false, List, [], ◌∷◌, Result, Err, refl, sym, subst, arith, false≢true, Plan, CommandFault}
use Rattle.tx_text.specs.declared.frame.FaultAt.{FaultAt}
use Rattle.tx_text.specs.declared.frame.FaultKind.{FaultKind}
use Rattle.tx_text.specs.declared.whole_text.WholeTextFault.{WholeTextFault}
use Rattle.tx_text.specs.declared.whole_text.WholeTextFault.TheVariants.{Read, NoMemory}
use Rattle.tx_text.specs.Ends.{Input, Output}
use Rattle.tx_lint.specs.AllFaults.{Fault, Progress}
use Rattle.tx_lint.specs.Gathered.{Told, told_of}
use Rattle.tx_lint.specs.Lints.{Faults}
use Rattle.tx_lint.specs.declared.entry.Entry.{Entry}
use Rattle.tx_risk.specs.declared.fault.RiskWord.{RiskWord}
use Rattle.tx_files.specs.Faults.{text_stop, risks_stop, risks_stop_by, fault_mark}
use Rattle.tx_requests.specs.Lint.{ToldLint, NotRead, WarnedWithRisks, LookedThrough, LintAnswers, LintRisksAnswers, LintAnswersBy}

pub not_read : (X : Type 0) (plan : Input) (out : Output) (f : WholeTextFault) → (f ≡ Read → plan.broken)
    → out.silent → NotRead {X = X} plan out (Err (text_stop f))
not_read X plan out Read broken silent = (broken refl, silent)
not_read X plan out NoMemory broken silent = silent

-- THE MARK of the sink stays

pub text_mark : (X : Type 0) (old : Bool) (f : WholeTextFault) → old ≡ fault_mark {X = X} old (Err (text_stop f))
text_mark X old f = grind arith

risks_by : (X : Type 0) (old : Bool) (f : FaultAt RiskWord) (k : FaultKind RiskWord)
    → old ≡ fault_mark {X = X} old (Err (risks_stop_by f k))
risks_by X old f k = grind arith

pub risks_mark : (X : Type 0) (old : Bool) (f : FaultAt RiskWord)
    → old ≡ fault_mark {X = X} old (Err (risks_stop f))
risks_mark X old f = risks_by X old f f.kind

-- WHAT WAS TOLD

-- the faults were told, and the risks not read
pub faulty_told : (faults : List Fault) (s : Progress) (file : List ℕ) (risks : Input) (out : Output)
    (result : Result ℕ CommandFault) (told : List Told) → told ≡ told_of faults → faults ≢ []
    → ToldLint file (Faults told) out result → risks.unread
    → LookedThrough faults s file risks out result
faulty_told [] s file risks out result told e some t unread = absurd (some refl)
faulty_told (f ∷ fs) s file risks out result told e some t unread =
    (subst (λ (l : List Told). ToldLint file (Faults l) out result) e t, unread)

-- the risks were read
pub right_told : (faults : List Fault) (s : Progress) (file : List ℕ) (risks : Input) (out : Output)
    (result : Result ℕ CommandFault) (t : Plan × List (ℕ × Entry)) → faults ≡ []
    → t ≡ (s.plan, s.entries) → WarnedWithRisks t file risks out result
    → LookedThrough faults s file risks out result
right_told faults s file risks out result t none is w =
    subst (λ (fs : List Fault). LookedThrough fs s file risks out result) (sym none)
    (subst (λ (k : Plan × List (ℕ × Entry)). WarnedWithRisks k file risks out result) is w)

-- BY WHAT is asked for
module _ (file : List ℕ) (plan risks : Input) (out : Output) (result : Result ℕ CommandFault) where
  pub with_risks : (named : Bool) → named ≡ true → LintRisksAnswers file plan risks out result
      → LintAnswersBy named file plan risks out result
  with_risks true e h = h
  with_risks false e h = absurd (false≢true e)

  pub without_risks : (named : Bool) → named ≡ false → LintAnswers file plan out result
      → risks.unread → LintAnswersBy named file plan risks out result
  without_risks true e h unread = absurd (false≢true (sym e))
  without_risks false e h unread = (h, unread)
