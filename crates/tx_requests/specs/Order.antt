-- The command `order`.
use Rattle.std.specs.Prelude.{◌≡◌, ◌⊎◌, ℕ, Bool, if◌then◌else◌, List, codes, Option, None, Some, is_some, Result, Ok, Err}
use Rattle.tx_cert.specs.Certificate.{Certificate}
use Rattle.tx_order.specs.declared.judging.OrderVerdict.{OrderVerdict}
use Rattle.tx_order.specs.declared.judging.OrderVerdict.TheVariants.{Ordered, NoOrder, NewUnsound}
use Rattle.tx_order.specs.Ordered.{Order, plan_before}
use Rattle.tx_order.specs.OrderVerdicts.{IsRightVerdict}
use Rattle.tx_order.specs.OrderText.{order_report}
use Rattle.tx_order.specs.Staged.{IsStageCert, HasStage, LacksStage}
use Rattle.tx_commands.specs.declared.order.OrderRequest.{OrderRequest}
use Rattle.tx_commands.specs.declared.order.Stopped.{Stopped}
use Rattle.tx_files.specs.declared.ending.Ending.{Ending}
use Rattle.tx_files.specs.declared.fault.CommandFault.{CommandFault}
use Rattle.tx_files.specs.declared.fault.CommandFault.TheVariants.{NoSuchStage}
use Rattle.tx_files.specs.declared.made.Made.{Made}
use Rattle.tx_files.specs.declared.two_plans.PlanText.{PlanText}
use Rattle.tx_files.specs.declared.two_plans.TwoPlans.{TwoPlans}
use Rattle.tx_files.specs.Ending.{EndsWith}
use Rattle.tx_files.specs.Faults.{memory_stop}
use Rattle.tx_files.specs.Made.{shown_plan, shown_events, plan_file, HasTextIf}
use Rattle.tx_requests.specs.declared.order.Switched.{Switched}
use Rattle.tx_requests.specs.Printing.{Printing, Writes}

-- a certificate of a stage
abbrev pub HasStageCert : Order → ℕ → Option Certificate → Type 0
HasStageCert o n None = ⊥
HasStageCert o n (Some cert) = IsStageCert o n cert

-- an order from the old plan, or from where one was stopped, on or back
abbrev pub word_of : Option Stopped → List ℕ
word_of None = codes "ORDER"
word_of (Some s) = if s.back then codes "RETURN" else codes "ONWARD"

module _ {A : Type 0} where
  -- the verdict on the switching from the one plan to the other is right
  abbrev pub IsJudged : OrderRequest → TwoPlans A → OrderVerdict A → Type 0
  IsJudged r t verdict =
      IsRightVerdict t.joined.old t.joined.new t.new.plan r.limits.limit r.limits.spare verdict

  -- an order was found, and it does not have the stage that is asked for, but so many
  pub record IsWithoutStage (r : OrderRequest) (t : TwoPlans A) (fault : CommandFault)
      : Type 0 where
    pub verdict : OrderVerdict A
    pub right : IsJudged r t verdict
    pub stages : ℕ
    pub missing : LacksStage r.stage verdict stages
    pub told : fault ≡ NoSuchStage stages

  -- the plans, and the verdict, which has the stage that is asked for
  abbrev pub OrderAnswers : OrderRequest → TwoPlans A → Result (Switched A) CommandFault → Type 0
  OrderAnswers r t (Ok a) = (a.old ≡ t.old) × (a.new ≡ t.new) × IsJudged r t a.verdict
      × HasStage r.stage a.verdict
  OrderAnswers r t (Err fault) = IsWithoutStage r t fault ⊎ (fault ≡ memory_stop)

  -- with the lists that are replaced
  abbrev pub order_prints : OrderRequest → Switched A → Printing
  order_prints r a = Writes
      (order_report (word_of r.stopped) a.old.plan a.new.plan r.limits.limit r.limits.spare a.verdict)

  -- the plan after a stage goes into a file, as the old text revised, and so does a certificate of
  -- the stage
  abbrev pub HasStagePlan : (asked : Bool) → PlanText A → Order → ℕ → Option (Made A) → Type 0
  HasStagePlan asked old o n None = ⊥
  HasStagePlan asked old o n (Some m) = (shown_plan m.shown ≡ plan_before o n)
      × (shown_events m.shown ≡ None) × HasStageCert o n m.cert
      × HasTextIf asked old.text.items (shown_plan m.shown)
      (plan_file (shown_plan m.shown) m.text)

  -- after a stage that was asked for
  abbrev pub EndsAtStage : (asked : Bool) → PlanText A → Order → ℕ
      → Result (Ending A) CommandFault → Type 0
  EndsAtStage asked old o n (Ok e) = (e.status ≡ 0) × HasStagePlan asked old o n e.made
  EndsAtStage asked old o n (Err fault) = fault ≡ memory_stop

  -- status 0 where there is an order
  abbrev pub EndsOrdered : (stage : Option ℕ) → (asked : Bool) → PlanText A → OrderVerdict A
      → Result (Ending A) CommandFault → Type 0
  EndsOrdered (Some n) asked old (Ordered o) = EndsAtStage asked old o n
  EndsOrdered None asked old (Ordered o) = EndsWith 0
  EndsOrdered stage asked old (NoOrder plans before after) = EndsWith 1
  EndsOrdered stage asked old (NewUnsound findings) = EndsWith 1

  abbrev pub OrderEnds : OrderRequest → Switched A → Result (Ending A) CommandFault → Type 0
  OrderEnds r a = EndsOrdered r.stage (is_some r.plan) a.old a.verdict
