-- What is read of the texts of commands.
use Rattle.std.specs.Prelude.{◌≡◌, ◌⊎◌, Bool, true, false, List, [], Result, Ok, Err}
use Rattle.tx_text.specs.declared.frame.FaultAt.{FaultAt}
use Rattle.tx_text.specs.Ends.{Input}
use Rattle.tx_plan.specs.Plan.{Plan}
use Rattle.tx_plan.specs.Rules.{IsPlan}
use Rattle.tx_plantext.specs.declared.fault.PlanWord.{PlanWord}
use Rattle.tx_plantext.specs.PlanText.{SaysPlan, ReadsPlan as PlanRead}
use Rattle.tx_risk.specs.declared.fault.RiskWord.{RiskWord}
use Rattle.tx_risk.specs.NamedRisks.{NamedRisk, AreRisksFor}
use Rattle.tx_risk.specs.RiskText.{ReadsRisks}
use Rattle.tx_files.specs.declared.reading.PlanRisks.{PlanRisks}
use Rattle.tx_files.specs.declared.fault.CommandFault.{CommandFault}
use Rattle.tx_files.specs.Faults.{plan_stop, risks_stop}

-- the text was refused, and this is told
pub record PlanRefused (text : Input) (told : CommandFault) : Type 0 where
  pub fault : FaultAt PlanWord
  pub read : PlanRead text (Err (fault.line, fault.kind))
  pub is : told ≡ plan_stop fault

-- the plan of a text
abbrev pub ReadsPlan : Input → Result Plan CommandFault → Type 0
ReadsPlan text (Ok p) = IsPlan p × SaysPlan text p
ReadsPlan text (Err fault) = PlanRefused text fault

-- the text of risks was refused, and this is told
pub record RisksRefused (p : Plan) (text : Input) (told : CommandFault) : Type 0 where
  pub fault : FaultAt RiskWord
  pub read : ReadsRisks p text (Err (fault.line, fault.kind))
  pub is : told ≡ risks_stop fault

-- the named risks of a plan, if they are asked for
abbrev pub ReadsRisksIf : (named : Bool) → Plan → Input → Result (List NamedRisk) CommandFault
    → Type 0
ReadsRisksIf true p text (Ok risks) = AreRisksFor p risks × ReadsRisks p text (Ok risks)
ReadsRisksIf true p text (Err fault) = RisksRefused p text fault
ReadsRisksIf false p text result = (result ≡ Ok []) × text.unread

-- a plan was read, and its risks were refused
abbrev pub LacksRisks : (named : Bool) → (first second : Input) → CommandFault → Type 0
LacksRisks named first second fault =
    (p : Plan) × ReadsPlan first (Ok p) × ReadsRisksIf named p second (Err fault)

module _ {A : Type 0} where
  -- the risks are of the plan
  abbrev pub HasItsRisks : PlanRisks A → Type 0
  HasItsRisks t = AreRisksFor t.plan t.risks

  -- a plan, and its named risks if they are asked for
  abbrev pub ReadsWithRisks : (named : Bool) → (first second : Input)
      → Result (PlanRisks A) CommandFault → Type 0
  ReadsWithRisks named first second (Ok t) =
      ReadsPlan first (Ok t.plan) × ReadsRisksIf named t.plan second (Ok t.risks)
  ReadsWithRisks named first second (Err fault) =
      (PlanRefused first fault × second.unread) ⊎ LacksRisks named first second fault
