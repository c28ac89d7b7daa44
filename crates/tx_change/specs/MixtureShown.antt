-- The mixture that shows what is wrong with a change, and the events that show it there.
use Rattle.std.specs.Prelude.{◌≡◌, ℕ, Bool, true, false, List, Option, Some, None, find, is_some}
use Rattle.std.specs.List.{AllByRecursion}
use Rattle.std.specs.Option.{option_map, IfSome}
use Rattle.tx_plan.specs.Plan.{Plan}
use Rattle.tx_machine.specs.declared.event.Event.{Event}
use Rattle.tx_rank.specs.declared.finding.Finding.{Finding}
use Rattle.tx_rank.specs.declared.finding.Finding.TheVariants.{Ambiguous, Loop, Short, Long}
use Rattle.tx_script.specs.Events.{IsWritable}
use Rattle.tx_audit.specs.Counter.{counter_of, has_counter}
use Rattle.tx_audit.specs.Breaks.{Shows}
use Rattle.tx_change.specs.declared.mixture.ShownMixture.{ShownMixture}
use Rattle.tx_change.specs.Shown.{shown_by, IsShown}

module _ {A : Type 0} where
  -- all findings but an ambiguous pair have a walk
  abbrev pub has_walk : Finding A → Bool
  has_walk (Ambiguous a b) = false
  has_walk (Loop c w) = true
  has_walk (Short c w) = true
  has_walk (Long c w) = true

  -- the first finding that has a walk
  abbrev pub first_walked : List (Finding A) → Option (Finding A)
  first_walked findings = find has_walk findings

  -- The mixture is the one that the finding shows, and the finding is true of it. The events are
  -- those of the finding, and show it there. A loop that turns back on one circuit has none.
  pub record ShowsMixture (old new : Plan) (limit spare : ℕ) (f : Finding A) (m : Plan)
      (events : Option (List Event)) : Type 0 where
    pub plan : m ≡ shown_by old new spare f
    pub shown : IsShown old new limit spare f
    pub counter : events ≡ counter_of m f
    pub which : is_some events ≡ has_counter m f
    pub shows : IfSome events (λ es. Shows m limit spare f es)
    pub writable : IfSome events (λ es. AllByRecursion (IsWritable m) es)

  -- it shows the first finding that has a walk
  abbrev pub ShowsFirstWalk : (old new : Plan) → (limit spare : ℕ) → List (Finding A)
      → Plan → Option (List Event) → Type 0
  ShowsFirstWalk old new limit spare findings m events =
      (f : Finding A) × (first_walked findings ≡ Some f)
      × ShowsMixture old new limit spare f m events

  -- The mixture of some findings: there is none where no finding has a walk
  abbrev pub MixtureAnswer : (old new : Plan) → (limit spare : ℕ) → List (Finding A)
      → Option (ShownMixture A) → Type 0
  MixtureAnswer old new limit spare findings None = first_walked findings ≡ None
  MixtureAnswer old new limit spare findings (Some m) =
      ShowsFirstWalk old new limit spare findings m.plan (option_map (λ v. v.items) m.events)

  -- The plan is the new one as it is, and a finding of it is the first that has a walk. The events
  -- are those of this finding, and show it there. A loop that turns back on one circuit has none.
  pub record ShowsNewPlan (new : Plan) (limit spare : ℕ) (findings : List (Finding A)) (m : Plan)
      (events : Option (List Event)) : Type 0 where
    pub plan : m ≡ new
    pub finding : Finding A
    pub first : first_walked findings ≡ Some finding
    pub counter : events ≡ counter_of m finding
    pub which : is_some events ≡ has_counter m finding
    pub shows : IfSome events (λ es. Shows m limit spare finding es)
    pub writable : IfSome events (λ es. AllByRecursion (IsWritable m) es)

  -- The new plan as it is with these events: there is none where no finding of it has a walk
  abbrev pub NewPlanAnswer : (new : Plan) → (limit spare : ℕ) → List (Finding A)
      → Option (ShownMixture A) → Type 0
  NewPlanAnswer new limit spare findings None = first_walked findings ≡ None
  NewPlanAnswer new limit spare findings (Some m) =
      ShowsNewPlan new limit spare findings m.plan (option_map (λ v. v.items) m.events)
