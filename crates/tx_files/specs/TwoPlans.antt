-- The two plans of a change or an order: both texts are read to their ends, and the plans are
-- joined.
use Rattle.std.specs.Prelude.{◌≡◌, ◌⊎◌, Bool, List, ℕ, true, None, Result, Ok, Err}
use Rattle.tx_text.specs.declared.frame.FaultAt.{FaultAt}
use Rattle.tx_text.specs.declared.frame.FaultKind.{FaultKind}
use Rattle.tx_text.specs.Ends.{Input, IsWholeText}
use Rattle.tx_text.specs.Said.{AnswersAs}
use Rattle.tx_text.specs.Told.{AtEnd}
use Rattle.tx_plan.specs.Plan.{Plan, figures_of, group_name}
use Rattle.tx_plan.specs.Rules.{IsPlan}
use Rattle.tx_plantext.specs.declared.fault.PlanWord.{PlanWord}
use Rattle.tx_plantext.specs.PlanText.{plan_of, is_memory, declares_line}
use Rattle.tx_join.specs.declared.refusal.JoinRefusal.{JoinRefusal}
use Rattle.tx_join.specs.declared.refusal.JoinRefusal.TheVariants.{OtherHome, OtherGroup, TooMany, NoMemory as JoinNoMemory}
use Rattle.tx_join.specs.declared.contradiction.Kind.TheVariants.{Code, Group}
use Rattle.tx_join.specs.Contradictions.{homes_of, contradiction_of}
use Rattle.tx_join.specs.Joined.{joined_old, joined_new}
use Rattle.tx_join.specs.declared.joining.Joined.{Joined}
use Rattle.tx_join.specs.Refusals.{join_refusal, IsRefusedAs}
use Rattle.tx_join.specs.Laws.{AreOverBoth, HaveTheirLists}
use Rattle.tx_jobs.specs.declared.job_fault.JobFault.TheVariants.{Read, NoMemory}
use Rattle.tx_files.specs.declared.two_plans.PlanText.{PlanText}
use Rattle.tx_files.specs.declared.two_plans.PlansRisks.{PlansRisks}
use Rattle.tx_files.specs.declared.two_plans.TwoPlans.{TwoPlans}
use Rattle.tx_files.specs.declared.two_plans.WithOld.{WithOld}
use Rattle.tx_files.specs.declared.two_plans.Which.{Which}
use Rattle.tx_files.specs.declared.two_plans.Which.TheVariants.{This, Old, New}
use Rattle.tx_files.specs.declared.fault.CommandFault.{CommandFault}
use Rattle.tx_files.specs.declared.fault.CommandFault.TheVariants.{Job, Contradiction, TooManyTogether}
use Rattle.tx_files.specs.Faults.{in_plan}
use Rattle.tx_files.specs.Reading.{ReadsRisksIf}
use Rattle.tx_risk.specs.NamedRisks.{AreRisksFor}

-- what the reader of plans answers of a text that is in memory
abbrev pub TextAnswers : List ℕ → Result Plan (ℕ × FaultKind PlanWord) → Type 0
TextAnswers text =
    AnswersAs is_memory (plan_of AtEnd text) (λ n. declares_line n AtEnd text ≡ true)

-- a text was read to its end, and is refused
pub record RefusedWhole (tell : FaultAt PlanWord → CommandFault) (input : Input)
    (fault : CommandFault) : Type 0 where
  pub text : List ℕ
  pub whole : IsWholeText input.old input.new text
  pub of : FaultAt PlanWord
  pub answer : TextAnswers text (Err (of.line, of.kind))
  pub told : fault ≡ tell of

-- it could not be read to its end, or there was no memory for it
abbrev pub NotWhole : Input → CommandFault → Type 0
NotWhole input (Job Read) = input.broken
NotWhole input (Job NoMemory) = Unit {0}
NotWhole input other = ⊥

-- no plan was had of a text
abbrev pub GivesNoPlan : (FaultAt PlanWord → CommandFault) → Input → CommandFault → Type 0
GivesNoPlan tell input fault = RefusedWhole tell input fault ⊎ NotWhole input fault

module _ {A : Type 0} where
  -- the text says the plan
  pub record IsSaid (t : PlanText A) : Type 0 where
    pub says : plan_of AtEnd t.text.items ≡ Ok t.plan
    pub rules : IsPlan t.plan

  -- a text was read to its end, and says this plan
  pub record SaysWhole (input : Input) (t : PlanText A) : Type 0 where
    pub whole : IsWholeText input.old input.new t.text.items
    pub said : IsSaid t

  -- the plan of a text, which is read to its end
  abbrev pub ReadsWhole : Which → Input → Result (PlanText A) CommandFault → Type 0
  ReadsWhole which input (Ok t) = SaysWhole input t
  ReadsWhole which input (Err fault) = GivesNoPlan (in_plan which) input fault

  -- two plans over their joined network
  pub record IsJoin (p q : Plan) (j : Joined A) : Type 0 where
    pub before : j.old ≡ joined_old p q
    pub after : j.new ≡ joined_new p q
    pub unrefused : join_refusal p q ≡ None
    pub network : AreOverBoth p q j.old j.new
    pub lists : HaveTheirLists p q j.old j.new

  -- two plans are joined
  pub record AreJoined (t : TwoPlans A) : Type 0 where
    pub old : IsPlan t.old.plan
    pub new : IsPlan t.new.plan
    pub joined : IsJoin t.old.plan t.new.plan t.joined

  -- why two plans have no joined network, by the lines of their texts that say so
  abbrev pub join_stop : (old new : PlanText A) → JoinRefusal → CommandFault
  join_stop old new (OtherHome c) = Contradiction (contradiction_of Code (figures_of new.plan c)
      (homes_of old.plan new.plan c) old.text.items new.text.items)
  join_stop old new (OtherGroup g) = Contradiction (contradiction_of Group
      (group_name new.plan g) None old.text.items new.text.items)
  join_stop old new TooMany = TooManyTogether
  join_stop old new JoinNoMemory = Job NoMemory

  -- two plans have no joined network, or there was no memory for it
  pub record IsNoJoinOf (old new : PlanText A) (fault : CommandFault) : Type 0 where
    pub refusal : JoinRefusal
    pub refused : IsRefusedAs old.plan new.plan refusal
    pub told : fault ≡ join_stop old new refusal

-- the first plan was read, but not the other one
pub record LacksOther (A : Type 0) (which : Which) (first second : Input) (fault : CommandFault)
    : Type 0 where
  pub plan : PlanText A
  pub read : SaysWhole first plan
  pub refused : GivesNoPlan (in_plan which) second fault

-- both plans were read, and they are not joined
pub record AreRefused (A : Type 0) (old new : Input) (fault : CommandFault) : Type 0 where
  pub before : PlanText A
  pub after : PlanText A
  pub old_read : SaysWhole old before
  pub new_read : SaysWhole new after
  pub refused : IsNoJoinOf before after fault

-- The plans are not joined: the first of these reasons. Without the old plan the new one is not
-- read.
abbrev pub AreNotJoined : (A : Type 0) → (old new : Input) → CommandFault → Type 0
AreNotJoined A old new fault = (GivesNoPlan (in_plan Old) old fault × new.unread)
    ⊎ (LacksOther A New old new fault ⊎ AreRefused A old new fault)

-- the plans of the first two texts, joined
abbrev pub ReadsPlans : {A : Type 0} → (old new : Input) → Result (TwoPlans A) CommandFault → Type 0
ReadsPlans old new (Ok t) =
    SaysWhole old t.old × SaysWhole new t.new × IsJoin t.old.plan t.new.plan t.joined
ReadsPlans {A} old new (Err fault) = AreNotJoined A old new fault

-- the plans were joined, and the risks were refused
abbrev pub LackRisks : (A : Type 0) → (named : Bool) → (old new text : Input) → CommandFault → Type 0
LackRisks A named old new text fault = (t : TwoPlans A) × ReadsPlans old new (Ok t)
    × ReadsRisksIf named t.joined.new text (Err fault)

module _ {A : Type 0} where
  -- two plans are joined, and the risks are of their joined network
  pub record HavePlansRisks (t : PlansRisks A) : Type 0 where
    pub plans : AreJoined t.plans
    pub risks : AreRisksFor t.plans.joined.new t.risks

  -- the plans of the first two texts, joined, and named risks over both, if they are asked for
  abbrev pub ReadsPlansWithRisks : (named : Bool) → (old new text : Input)
      → Result (PlansRisks A) CommandFault → Type 0
  ReadsPlansWithRisks named old new text (Ok t) =
      ReadsPlans old new (Ok t.plans) × ReadsRisksIf named t.plans.joined.new text (Ok t.risks)
  ReadsPlansWithRisks named old new text (Err fault) =
      (AreNotJoined A old new fault × text.unread) ⊎ LackRisks A named old new text fault

module _ {A : Type 0} where
  -- both texts say their plans
  abbrev pub AreSaid : WithOld A → Type 0
  AreSaid t = IsSaid t.plan × IsSaid t.old

  -- a plan and an old one, which are not joined; without the plan the old one is not read
  abbrev pub ReadsWithOld : (first second : Input) → Result (WithOld A) CommandFault → Type 0
  ReadsWithOld first second (Ok t) = SaysWhole first t.plan × SaysWhole second t.old
  ReadsWithOld first second (Err fault) =
      (GivesNoPlan (in_plan This) first fault × second.unread)
      ⊎ LacksOther A Old first second fault
