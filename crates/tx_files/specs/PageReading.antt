-- What a page is made of.
use Rattle.std.specs.Prelude.{◌≡◌, ◌⊎◌, Bool, true, false, Option, None, Some, Result, Ok, Err, IfSome}
use Rattle.tx_text.specs.Ends.{Input}
use Rattle.tx_plan.specs.Rules.{IsPlan}
use Rattle.tx_risk.specs.NamedRisks.{AreRisksFor}
use Rattle.tx_files.specs.declared.page_reading.PageTexts.{PageTexts}
use Rattle.tx_files.specs.declared.two_plans.PlanText.{PlanText}
use Rattle.tx_files.specs.declared.two_plans.Which.TheVariants.{This, Old}
use Rattle.tx_files.specs.declared.fault.CommandFault.{CommandFault}
use Rattle.tx_files.specs.Faults.{in_plan}
use Rattle.tx_files.specs.Reading.{ReadsRisksIf}
use Rattle.tx_files.specs.TwoPlans.{SaysWhole, GivesNoPlan}

module _ {A : Type 0} where
  -- the plan and an old one keep the rules, and the risks are of the plan
  pub record AreForPage (t : PageTexts A) : Type 0 where
    pub plan : IsPlan t.plan.plan
    pub risks : AreRisksFor t.plan.plan t.risks
    pub old : IfSome t.old (λ o. IsPlan o.plan)

  -- the old plan, if it is asked for
  abbrev pub ReadsOldIf : (changed : Bool) → Input → Result (Option (PlanText A)) CommandFault
      → Type 0
  ReadsOldIf true text (Ok (Some t)) = SaysWhole text t
  ReadsOldIf true text (Ok None) = ⊥
  ReadsOldIf true text (Err fault) = GivesNoPlan (in_plan Old) text fault
  ReadsOldIf false text result = (result ≡ Ok None) × text.unread

-- the plan was read, and its risks were refused
abbrev pub LacksPageRisks : (A : Type 0) → (named : Bool) → (first second : Input) → CommandFault
    → Type 0
LacksPageRisks A named first second fault =
    (t : PlanText A) × SaysWhole first t × ReadsRisksIf named t.plan second (Err fault)

-- both were read, and the old plan was refused
pub record LacksOld (A : Type 0) (named changed : Bool) (first second third : Input)
    (fault : CommandFault) : Type 0 where
  pub texts : PageTexts A
  pub plan : SaysWhole first texts.plan
  pub risks : ReadsRisksIf named texts.plan.plan second (Ok texts.risks)
  pub refused : ReadsOldIf {A = A} changed third (Err fault)

-- the plan, its named risks and an old plan, these two if they are asked for
abbrev pub ReadsForPage : {A : Type 0} → (named changed : Bool) → (first second third : Input)
    → Result (PageTexts A) CommandFault → Type 0
ReadsForPage named changed first second third (Ok t) = SaysWhole first t.plan
    × ReadsRisksIf named t.plan.plan second (Ok t.risks) × ReadsOldIf changed third (Ok t.old)
ReadsForPage {A} named changed first second third (Err fault) =
    (GivesNoPlan (in_plan This) first fault × second.unread × third.unread)
    ⊎ ((LacksPageRisks A named first second fault × third.unread)
    ⊎ LacksOld A named changed first second third fault)
