-- What is known of the answer of a change, and how it ends.
use Rattle.tx_requests.proofs.Common.{◌≡◌, Bool, true, false, ℕ, List, [], ◌∷◌, Option, None, Some, Result, Ok, Err, Vec, refl, subst, sym, AllByRecursion, Plan, IsPlan, Event, Finding, IsTrueOf, CommandFault, TwoPlans, memory_stop, AreJoined}
use Rattle.std.specs.Prelude.{IfOk, IfErr}
use Rattle.std.specs.Option.{option_map, IfSome}
use Rattle.tx_audit.specs.Audits.{IsAllFound}
use Rattle.tx_change.specs.declared.judging.ChangeVerdict.{ChangeVerdict}
use Rattle.tx_change.specs.declared.judging.ChangeVerdict.TheVariants.{Unsound, NewUnsound}
use Rattle.tx_change.specs.declared.mixture.ShownMixture.{ShownMixture}
use Rattle.tx_change.specs.Shown.{IsShown}
use Rattle.tx_change.specs.ChangeAnswers.{IsRightVerdict}
use Rattle.tx_change.specs.MixtureShown.{first_walked, ShowsFirstWalk, MixtureAnswer, ShowsNewPlan, NewPlanAnswer}
use Rattle.tx_commands.specs.declared.change.ChangeRequest.{ChangeRequest}
use Rattle.tx_files.specs.declared.ending.Ending.{Ending}
use Rattle.tx_files.specs.declared.made.Made.{Made}
use Rattle.tx_files.specs.declared.made.Shown.{Shown}
use Rattle.tx_files.specs.declared.two_plans.PlanText.{PlanText}
use Rattle.tx_files.specs.Ending.{EndsWith}
use Rattle.tx_files.specs.Made.{shown_plan, shown_events, plan_file, HasTextIf}
use Rattle.tx_files.specs.Writables.{AreWritable}
use Rattle.tx_requests.specs.Change.{ChangeAnswers, ShowsFirst, EndsShown}
use Rattle.tx_requests.specs.inner.Changes.{IsMadeOf}

-- all findings of a plan are true
all_true : {A : Type 0} (p : Plan) (limit spare : ℕ) (fs : List (Finding A))
    → IsAllFound p limit spare fs → AllByRecursion (IsTrueOf p limit spare) fs
all_true p limit spare [] h = tt
all_true p limit spare (f ∷ fs) h = h.0

-- each finding of a change is true of the mixture that it shows
mixtures_true : {A : Type 0} (old new q : Plan) (limit spare : ℕ) (findings : Vec (Finding A) A)
    → IsRightVerdict old new q limit spare (Unsound findings)
    → AllByRecursion (IsShown old new limit spare) findings.items
mixtures_true old new q limit spare findings right = right.shown

-- and each of the new plan of this plan
plan_true : {A : Type 0} (old new q : Plan) (limit spare : ℕ) (findings : Vec (Finding A) A)
    → IsRightVerdict old new q limit spare (NewUnsound findings)
    → AllByRecursion (IsTrueOf q limit spare) findings.items
plan_true old new q limit spare findings right = all_true q limit spare findings.items right.1.0

-- WHAT IS KNOWN OF AN ANSWER

module _ {A : Type 0} (r : ChangeRequest) (a : TwoPlans A × ChangeVerdict A) where
  -- it is one of some texts
  abbrev pub IsKnown : Type 0
  IsKnown = (t : TwoPlans A) × AreJoined t × ChangeAnswers r t (Ok a)

  -- its plans are joined
  pub answer_joined : IsKnown → AreJoined a.0
  answer_joined (t, known, (same, right)) = subst AreJoined (sym same) known

  answer_right : IsKnown → (v : ChangeVerdict A) → a.1 ≡ v
      → IsRightVerdict a.0.joined.old a.0.joined.new a.0.new.plan r.limits.limit r.limits.spare v
  answer_right (t, known, (same, right)) v is =
      subst (IsRightVerdict a.0.joined.old a.0.joined.new a.0.new.plan r.limits.limit r.limits.spare) is
      (subst (λ (x : TwoPlans A). IsRightVerdict x.joined.old x.joined.new x.new.plan r.limits.limit r.limits.spare a.1)
      (sym same) right)

  pub answer_shown : IsKnown → (findings : Vec (Finding A) A) → a.1 ≡ Unsound findings
      → AllByRecursion (IsShown a.0.joined.old a.0.joined.new r.limits.limit r.limits.spare) findings.items
  answer_shown known findings is =
      mixtures_true a.0.joined.old a.0.joined.new a.0.new.plan r.limits.limit r.limits.spare findings
      (answer_right known (Unsound findings) is)

  pub answer_true : IsKnown → (findings : Vec (Finding A) A) → a.1 ≡ NewUnsound findings
      → AllByRecursion (IsTrueOf a.0.new.plan r.limits.limit r.limits.spare) findings.items
  answer_true known findings is =
      plan_true a.0.joined.old a.0.joined.new a.0.new.plan r.limits.limit r.limits.spare findings
      (answer_right known (NewUnsound findings) is)

-- THE PLAN THAT IS SHOWN

if_mapped : {X Y : Type 0} (o : Option X) (g : X → Y) (P : Y → Type 0)
    → IfSome (option_map g o) P → IfSome o (λ x. P (g x))
if_mapped None g P h = tt
if_mapped (Some x) g P h = h

module _ {A : Type 0} (limit spare : ℕ) (findings : List (Finding A))
    (o : Option (ShownMixture A)) (m : ShownMixture A) (is : o ≡ Some m) where
  -- a mixture
  module _ (old new : Plan) (h : MixtureAnswer old new limit spare findings o) where
    pub mixture_shown : ShowsFirstWalk old new limit spare findings m.plan
        (option_map (λ v. v.items) m.events)
    mixture_shown = subst (MixtureAnswer old new limit spare findings) is h

    -- its events can be written
    pub mixture_writable : IfSome m.events (λ events. AreWritable m.plan events.items)
    mixture_writable =
        if_mapped m.events (λ v. v.items) (AreWritable m.plan) mixture_shown.2.writable

    -- it keeps the rules
    pub mixture_rules : IsPlan m.plan
    mixture_rules = subst IsPlan (sym mixture_shown.2.plan) mixture_shown.2.shown.0.rules

  -- the new plan as it is
  module _ (new : Plan) (h : NewPlanAnswer new limit spare findings o) where
    pub new_shown : ShowsNewPlan new limit spare findings m.plan
        (option_map (λ v. v.items) m.events)
    new_shown = subst (NewPlanAnswer new limit spare findings) is h

    pub new_writable : IfSome m.events (λ events. AreWritable m.plan events.items)
    new_writable = if_mapped m.events (λ v. v.items) (AreWritable m.plan) new_shown.writable

    pub new_rules : IsPlan new → IsPlan m.plan
    new_rules rules = subst IsPlan (sym new_shown.plan) rules

-- HOW IT ENDS

module _ {A : Type 0} (shown asked : Bool) (old : PlanText A) (findings : List (Finding A))
    (Shows : Plan → Option (List Event) → Type 0) where
  -- nothing of it goes into a file
  pub ends_unshown : (result : Result (Ending A) CommandFault) → shown ≡ false → EndsWith 1 result
      → EndsShown shown asked old findings Shows result
  ends_unshown result e h = rw e h

  -- memory ran out
  pub ends_lacking : shown ≡ true → EndsShown shown asked old findings Shows (Err memory_stop)
  ends_lacking e = rw e refl

  -- no finding has a walk
  pub ends_unwalked : (e : Ending A) → shown ≡ true → e.status ≡ 1 → e.made ≡ None
      → first_walked findings ≡ None → EndsShown shown asked old findings Shows (Ok e)
  ends_unwalked e is status made none =
      rw is (status, subst (ShowsFirst asked old findings Shows) (sym made) none)

  made_shown : (s : Shown A) (made : Option (Made A)) → Shows (shown_plan s) (shown_events s)
      → IsMadeOf asked old s made → ShowsFirst asked old findings Shows made
  made_shown s None shows h = absurd h
  made_shown s (Some m) shows (same, cert, text) = (
    subst (λ (x : Shown A). Shows (shown_plan x) (shown_events x)) (sym same) shows,
    cert,
    subst (λ (x : Shown A). HasTextIf asked old.text.items (shown_plan x) (plan_file (shown_plan x) m.text))
        (sym same) text,
  )

  -- a plan is shown
  pub ends_shown : (s : Shown A) (result : Result (Ending A) CommandFault) → shown ≡ true
      → Shows (shown_plan s) (shown_events s) → IfOk result (λ e. e.status ≡ 1)
      → IfOk result (λ e. IsMadeOf asked old s e.made)
      → IfErr result (λ fault. fault ≡ memory_stop)
      → EndsShown shown asked old findings Shows result
  ends_shown s (Ok e) is shows status made lacking =
      rw is (status, made_shown s e.made shows made)
  ends_shown s (Err fault) is shows status made lacking = rw is lacking
