-- The two plans of an order that leads on or back from where another one was stopped.
use Rattle.std.specs.Prelude.{◌≡◌, ◌⊎◌, ℕ, Bool, true, false, List, Option, None, Some, Result, Ok, Err}
use Rattle.tx_text.specs.declared.frame.FaultAt.{FaultAt}
use Rattle.tx_text.specs.Ends.{Input}
use Rattle.tx_plan.specs.declared.ids.Pair.{Pair}
use Rattle.tx_plan.specs.Plan.{Plan}
use Rattle.tx_order.specs.declared.done.DoneWord.{DoneWord}
use Rattle.tx_order.specs.declared.switching.Switching.{Switching}
use Rattle.tx_order.specs.declared.switching.Switching.TheVariants.{Ordered, NoOrder}
use Rattle.tx_order.specs.DoneText.{ReadsDone}
use Rattle.tx_order.specs.Ordered.{Order, stages_in}
use Rattle.tx_order.specs.Staged.{IsStageOf}
use Rattle.tx_order.specs.Stopped.{IsStopped, target_of}
use Rattle.tx_order.specs.Switchings.{IsRightSwitching}
use Rattle.tx_commands.specs.declared.order.Stopped.{Stopped}
use Rattle.tx_files.specs.declared.fault.CommandFault.{CommandFault}
use Rattle.tx_files.specs.declared.fault.CommandFault.TheVariants.{NoSuchStage}
use Rattle.tx_files.specs.declared.two_plans.TwoPlans.{TwoPlans}
use Rattle.tx_files.specs.Faults.{done_stop, memory_stop}
use Rattle.tx_files.specs.TwoPlans.{ReadsPlans, AreNotJoined, IsJoin}

-- the text of what is done is refused
pub record IsDoneRefused (o : Order) (n : ℕ) (text : Input) (fault : CommandFault) : Type 0 where
  pub of : FaultAt DoneWord
  pub read : ReadsDone o n text (Err (of.line, of.kind))
  pub told : fault ≡ done_stop of

-- what is done of a stage: what a text says, if there is one, or all of it
abbrev pub ReadsDoneIf : (named : Bool) → Order → ℕ → Input
    → Result (Option (List Pair)) CommandFault → Type 0
ReadsDoneIf true o n text (Ok (Some pairs)) = ReadsDone o n text (Ok pairs)
ReadsDoneIf true o n text (Ok None) = ⊥
ReadsDoneIf true o n text (Err fault) = IsDoneRefused o n text fault
ReadsDoneIf false o n text done = (done ≡ Ok None) × text.unread

-- the plan in the stage where an order was stopped, or why there is none
abbrev pub StopsIn : Stopped → (named : Bool) → Input → Order → Result Plan CommandFault → Type 0
StopsIn s named text o (Ok p) = IsStageOf o s.stage × (done : Option (List Pair))
    × ReadsDoneIf named o s.stage text (Ok done) × IsStopped o s.stage done p
StopsIn s named text o (Err fault) =
    ((IsStageOf o s.stage → ⊥) × (fault ≡ NoSuchStage (stages_in o)))
    ⊎ (ReadsDoneIf named o s.stage text (Err fault) ⊎ (fault ≡ memory_stop))

module _ {A : Type 0} where
  -- by the order that was begun, if there is one
  abbrev pub StopsBy : Stopped → (named : Bool) → Input → Switching A → Result Plan CommandFault
      → Type 0
  StopsBy s named text (Ordered o) result = StopsIn s named text o result
  StopsBy s named text (NoOrder plans before after) result = result ≡ Err (NoSuchStage 0)

-- the same of an order that was begun between two plans, unless memory ran out
abbrev pub StopsAt : (A : Type 0) → (old new : Plan) → Stopped → (named : Bool) → Input
    → Result Plan CommandFault → Type 0
StopsAt A old new s named text result = (result ≡ Err memory_stop)
    ⊎ ((begun : Switching A) × IsRightSwitching old new s.limits.limit s.limits.spare begun
    × StopsBy s named text begun result)

module _ {A : Type 0} where
  -- the plan where the order was stopped, and the one to which it leads from there
  pub record IsResumed (s : Stopped) (named : Bool) (t : TwoPlans A) (text : Input) (l : TwoPlans A)
      : Type 0 where
    pub stops : StopsAt A t.joined.old t.joined.new s named text (Ok l.old.plan)
    pub old_text : l.old.text ≡ t.old.text
    pub new : l.new ≡ record t.new { plan = target_of s.back t.joined.old t.joined.new }
    pub joined : IsJoin l.old.plan l.new.plan l.joined

  abbrev pub Resumes : Stopped → (named : Bool) → TwoPlans A → Input
      → Result (TwoPlans A) CommandFault → Type 0
  Resumes s named t text (Ok l) = IsResumed s named t text l
  Resumes s named t text (Err fault) = StopsAt A t.joined.old t.joined.new s named text (Err fault)

  -- the plans of the first two texts, joined; or, if an order between them was stopped, what it
  -- leads on or back from
  abbrev pub ReadsStopped : Option Stopped → (named : Bool) → (old new text : Input)
      → Result (TwoPlans A) CommandFault → Type 0
  ReadsStopped None named old new text result = ReadsPlans old new result × text.unread
  ReadsStopped (Some s) named old new text result =
      ((fault : CommandFault) × AreNotJoined A old new fault × text.unread × (result ≡ Err fault))
      ⊎ ((t : TwoPlans A) × ReadsPlans old new (Ok t) × Resumes s named t text result)
