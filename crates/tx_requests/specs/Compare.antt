-- The command `survive` with an old plan.
use Rattle.std.specs.Prelude.{◌≡◌, Bool, if◌then◌else◌, List, [], None, Result, Ok, Err, IfSome}
use Rattle.tx_plan.specs.Plan.{Plan}
use Rattle.tx_risk.specs.Compared.{Side}
use Rattle.tx_risk.specs.NamedRisks.{NamedRisk, risks_in}
use Rattle.tx_risk.specs.declared.outage.Outage.{Outage}
use Rattle.tx_risk.specs.Outages.{all_outages, AreOutcomes}
use Rattle.tx_risk_report.specs.declared.comparison.Comparison.{Comparison}
use Rattle.tx_risk_report.specs.Comparison.{comparison_text, is_against}
use Rattle.tx_commands.specs.declared.survive.CompareRequest.{CompareRequest}
use Rattle.tx_files.specs.declared.ending.Ending.{Ending}
use Rattle.tx_files.specs.declared.fault.CommandFault.{CommandFault}
use Rattle.tx_files.specs.declared.two_plans.PlansRisks.{PlansRisks}
use Rattle.tx_files.specs.Ending.{EndsWith}
use Rattle.tx_files.specs.Faults.{memory_stop}
use Rattle.tx_requests.specs.declared.compare.Compared.{Compared}
use Rattle.tx_requests.specs.declared.compare.Outlook.{Outlook}
use Rattle.tx_requests.specs.Grade.{IsGradeOf}
use Rattle.tx_requests.specs.Printing.{Printing, Writes}
use Rattle.tx_requests.specs.Survive.{is_only}

module _ {A : Type 0} where
  -- the grade of a plan, and what its outages come to, if it has one: the risks are those over a
  -- network, with the groups that the plan has
  pub record IsOutlookOf (network : Plan) (risks : List NamedRisk) (only : Bool) (p : Plan)
      (l : Outlook A) : Type 0 where
    pub grade : IsGradeOf p l.grade
    pub outcomes : IfSome l.grade.plan
        (λ _. AreOutcomes p (risks_in network p risks) only l.outcomes.items)
    pub none : l.grade.plan ≡ None → l.outcomes.items ≡ []

  -- of both plans, with all outages of their joined network
  pub record IsComparedOf (r : CompareRequest) (t : PlansRisks A) (a : Compared A) : Type 0 where
    pub texts : a.texts ≡ t
    pub outages : a.outages.items ≡ all_outages t.plans.joined.new t.risks (is_only r.risks)
    pub new : IsOutlookOf t.plans.joined.new t.risks (is_only r.risks) t.plans.new.plan a.new
    pub old : IsOutlookOf t.plans.joined.new t.risks (is_only r.risks) t.plans.old.plan a.old

  abbrev pub CompareAnswers : CompareRequest → PlansRisks A → Result (Compared A) CommandFault → Type 0
  CompareAnswers r t (Ok a) = IsComparedOf r t a
  CompareAnswers r t (Err fault) = fault ≡ memory_stop

  -- two plans with their outages, side by side
  pub record AreBeside (network : Plan) (risks : List NamedRisk) (outages : List Outage)
      (new old : Side A) (c : Comparison A) : Type 0 where
    pub network_is : c.network.now ≡ network
    pub risks_are : c.risks.now ≡ risks
    pub outages_are : c.outages.now ≡ outages
    pub new_is : c.new ≡ new
    pub old_is : c.old ≡ old

  -- what is written of it
  abbrev pub IsWrittenOf : Compared A → Comparison A → Type 0
  IsWrittenOf a c = AreBeside a.texts.plans.joined.new a.texts.risks a.outages.items
      (record { plan = a.texts.plans.new.plan; outcomes = a.new.outcomes.items })
      (record { plan = a.texts.plans.old.plan; outcomes = a.old.outcomes.items }) c

  abbrev pub ComparePrints : Compared A → Printing
  ComparePrints a old new marked_old marked_new result = (c : Comparison A) × IsWrittenOf a c
      × Writes (comparison_text c a.new.grade a.old.grade) old new marked_old marked_new result

  -- status 0 if nothing is worse
  abbrev pub CompareEnds : Compared A → Result (Ending A) CommandFault → Type 0
  CompareEnds a result = (c : Comparison A) × IsWrittenOf a c
      × EndsWith (if is_against c a.new.grade.plan a.old.grade.plan then 1 else 0) result
