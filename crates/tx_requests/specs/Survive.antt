-- The command `survive`.
use Rattle.std.specs.List.{list_any}
use Rattle.std.specs.Prelude.{◌≡◌, ◌==◌, Bool, true, false, not, if◌then◌else◌, length, List, Option, None, Some, Result, Ok, Err}
use Rattle.tx_plan.specs.Plan.{Plan}
use Rattle.tx_risk.specs.NamedRisks.{NamedRisk}
use Rattle.tx_risk.specs.Outages.{AreOutcomes}
use Rattle.tx_risk.specs.Survivals.{HasGrade}
use Rattle.tx_risk.specs.declared.surviving.Survival.{Survival}
use Rattle.tx_risk.specs.declared.surviving.Survival.TheVariants.{Tried, Ungraded}
use Rattle.tx_risk_report.specs.OutageReport.{survival_text}
use Rattle.tx_files.specs.declared.ending.Ending.{Ending}
use Rattle.tx_files.specs.declared.fault.CommandFault.{CommandFault}
use Rattle.tx_files.specs.declared.reading.PlanRisks.{PlanRisks}
use Rattle.tx_commands.specs.declared.survive.SurviveRequest.{SurviveRequest}
use Rattle.tx_files.specs.Ending.{EndsWith}
use Rattle.tx_files.specs.Faults.{memory_stop}
use Rattle.tx_requests.specs.Grade.{IsGradeOf}
use Rattle.tx_requests.specs.Printing.{Printing, Writes}

-- the named risks alone are tried
abbrev pub is_only : {F : Type 0} → Option (F × Bool) → Bool
is_only None = false
is_only (Some (file, only)) = only

module _ {A : Type 0} where
  -- what outages come to: of a plan that has a grade, what each named risk, each group and each
  -- exchange cuts off alone, or each named risk; else that it has none, and why
  abbrev pub IsSurvivalOf : Plan → List NamedRisk → (only : Bool) → Survival A → Type 0
  IsSurvivalOf p risks only (Tried outcomes) = HasGrade p × AreOutcomes p risks only outcomes.items
  IsSurvivalOf p risks only (Ungraded grade) = (grade.plan ≡ None) × IsGradeOf p grade

  -- the plan and its risks, and what its outages come to
  abbrev pub SurviveAnswers : SurviveRequest → PlanRisks A
      → Result (PlanRisks A × Survival A) CommandFault → Type 0
  SurviveAnswers r t (Ok a) = (a.0 ≡ t) × IsSurvivalOf t.plan t.risks (is_only r.risks) a.1
  SurviveAnswers r t (Err fault) = fault ≡ memory_stop

  abbrev pub survive_prints : PlanRisks A × Survival A → Printing
  survive_prints a = Writes (survival_text a.0.plan a.0.risks a.1)

  -- an outage cuts somebody off, or the plan has no grade
  abbrev pub is_denied : Survival A → Bool
  is_denied (Tried outcomes) = list_any (λ o. not (length o.cuts.items == 0)) outcomes.items
  is_denied (Ungraded grade) = true

  -- status 0 if nobody is cut off
  abbrev pub SurviveEnds : PlanRisks A × Survival A → Result (Ending A) CommandFault → Type 0
  SurviveEnds a = EndsWith (if is_denied a.1 then 1 else 0)
