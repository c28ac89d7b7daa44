-- What was read of the texts of a request.
use Rattle.tx_files.proofs.Common.{◌≡◌, Bool, true, false, List, [], Option, None, Some, Ok, Err, refl, sym, Input, Plan, IsPlan, NamedRisk, AreRisksFor, CommandFault, PlanText}
use Rattle.std.proofs.lemmas.Bool.{false≢true}
use Rattle.std.specs.Prelude.{IfSome}
use Rattle.tx_text.specs.declared.whole_text.WholeTextFault.{WholeTextFault}
use Rattle.tx_text.specs.declared.whole_text.WholeTextFault.TheVariants.{Read as TextRead, NoMemory as TextNoMemory}
use Rattle.tx_risk.proofs.RiskLines.{no_risks}
use Rattle.tx_files.specs.PageReading.{ReadsOldIf}
use Rattle.tx_files.specs.Reading.{RisksRefused, ReadsRisksIf}
use Rattle.tx_files.specs.TwoPlans.{GivesNoPlan, NotWhole, SaysWhole}
use Rattle.tx_files.specs.Faults.{in_plan, text_stop}
use Rattle.tx_files.specs.declared.two_plans.Which.TheVariants.{Old}
use Rattle.tx_risk.specs.RiskText.{ReadsRisks}

-- why a text was not read to its end
pub not_whole : (input : Input) (f : WholeTextFault) → (f ≡ TextRead → input.broken)
    → NotWhole input (text_stop f)
not_whole input TextRead broken = broken refl
not_whole input TextNoMemory broken = tt

module _ (p : Plan) (text : Input) where
  -- risks that are asked for were read
  pub risks_read : (named : Bool) (risks : List NamedRisk) → named ≡ true → AreRisksFor p risks
      → ReadsRisks p text (Ok risks) → ReadsRisksIf named p text (Ok risks)
  risks_read true risks e fits read = (fits, read)
  risks_read false risks e fits read = absurd (false≢true e)

  -- they were refused
  pub risks_refused : (named : Bool) (fault : CommandFault) → named ≡ true
      → RisksRefused p text fault → ReadsRisksIf named p text (Err fault)
  risks_refused true fault e h = h
  risks_refused false fault e h = absurd (false≢true e)

  -- none are asked for
  pub risks_unasked : (named : Bool) (risks : List NamedRisk) → named ≡ false → risks ≡ []
      → text.unread → ReadsRisksIf named p text (Ok risks)
  risks_unasked true risks e none h = absurd (false≢true (sym e))
  risks_unasked false risks e none h = (rw none refl, h)

  -- either way they are of the plan
  pub risks_fit : (named : Bool) (risks : List NamedRisk) → ReadsRisksIf named p text (Ok risks)
      → AreRisksFor p risks
  risks_fit true risks h = h.0
  risks_fit false risks h = let none : risks ≡ [] = let e = h.0 in cc in no_risks p risks none

module _ (A : Type 0) (text : Input) where
  -- an old plan that is asked for was read
  pub old_read : (changed : Bool) (t : PlanText A) → changed ≡ true → SaysWhole text t
      → ReadsOldIf changed text (Ok (Some t))
  old_read true t e h = h
  old_read false t e h = absurd (false≢true e)

  -- it was refused
  pub old_refused : (changed : Bool) (fault : CommandFault) → changed ≡ true
      → GivesNoPlan (in_plan Old) text fault → ReadsOldIf {A = A} changed text (Err fault)
  old_refused true fault e h = h
  old_refused false fault e h = absurd (false≢true e)

  -- none is asked for
  pub old_unasked : (changed : Bool) → changed ≡ false → text.unread
      → ReadsOldIf {A = A} changed text (Ok None)
  old_unasked true e h = absurd (false≢true (sym e))
  old_unasked false e h = (refl, h)

  -- either way it keeps the rules
  pub old_said : (changed : Bool) (t : Option (PlanText A)) → ReadsOldIf changed text (Ok t)
      → IfSome t (λ o. IsPlan o.plan)
  old_said true (Some t) h = h.said.rules
  old_said true None h = tt
  old_said false (Some t) h = let bad : ⊥ = let e = h.0 in cc in absurd bad
  old_said false None h = tt
