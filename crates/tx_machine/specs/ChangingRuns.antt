-- Runs while a plan is changed, with calls up: before each event any lists and bars may have been
-- switched, on or back.
use Rattle.std.specs.Prelude.{ℕ, ◌+◌, ◌*◌, ◌≤◌, List, [], ◌∷◌, map}
use Rattle.std.specs.List.{AllByRecursion}
use Rattle.tx_plan.specs.Plan.{Plan}
use Rattle.tx_plan.specs.Mixtures.{SameNetwork, IsMixture}
use Rattle.tx_machine.specs.declared.event.Event.{Event}
use Rattle.tx_machine.specs.State.{State, opening}
use Rattle.tx_machine.specs.Step.{step}
use Rattle.tx_machine.specs.Runs.{Moment, moment}
use Rattle.tx_machine.specs.Safe.{IsSafe}
use Rattle.tx_machine.specs.Excused.{IsExcused, FewDown, OthersFree, IsNcByCollision}
use Rattle.tx_machine.specs.Sound.{routes_of}

-- an event, and the plan that is in force when it comes
pub record Turn : Type 0 where
  pub plan : Plan
  pub event : Event

-- what happened at an event, and the plan that was in force
pub record Switched : Type 0 where
  pub plan : Plan
  pub moment : Moment

-- the steps in turn, each by the plan then in force
abbrev pub changing_run : State → List Turn → List Switched
changing_run s [] = []
changing_run s (t ∷ turns) =
    record { plan = t.plan; moment = moment t.plan s t.event }
    ∷ changing_run (step t.plan s t.event).1 turns

-- at each event some mixture is in force
abbrev pub AreMixtures : (old new : Plan) → List Turn → Type 0
AreMixtures old new turns = AllByRecursion (λ t. IsMixture old new t.plan) turns

-- it holds at each event of every such run, from every opening state
abbrev pub AtEachTurn : (old new : Plan) → (Switched → Type 0) → Type 0
AtEachTurn old new Holds =
    (numbers count : ℕ) (turns : List Turn) → AreMixtures old new turns
    → AllByRecursion Holds (changing_run (opening numbers count) turns)

-- the state is safe by each plan of the network, so also by the one that comes into force next
abbrev pub IsSafeByEach : (old : Plan) → (limit : ℕ) → State → Type 0
IsSafeByEach old limit s = (p : Plan) → SameNetwork old p → IsSafe p limit s

-- an NC is excused by the list then in force
abbrev pub IsExcusedThen : (spare : ℕ) → Switched → Type 0
IsExcusedThen spare m = IsExcused m.plan spare m.moment.before m.moment.event m.moment.reply

-- A change is sound: from every opening state, for every list of events, and whichever mixture is
-- in force at each of them, every state is safe, and every NC is excused by the list in force when
-- it was answered.
pub record IsSoundChange (old new : Plan) (limit spare : ℕ) : Type 0 where
  pub first : (numbers count : ℕ) → IsSafeByEach old limit (opening numbers count)
  pub safe : AtEachTurn old new (λ m. IsSafeByEach old limit m.moment.after)
  pub excused : AtEachTurn old new (λ m. IsExcusedThen spare m)

-- At most two Routes of one call at each exchange before the home of its code, and one there, also
-- where the plan changes meanwhile.
abbrev pub HasFewRoutesMeanwhile : (old new : Plan) → (limit : ℕ) → Type 0
HasFewRoutesMeanwhile old new limit =
    (numbers count : ℕ) (turns : List Turn) (n : ℕ) → AreMixtures old new turns
    → routes_of n (map (λ m. m.moment) (changing_run (opening numbers count) turns)) ≤ 2 * limit + 3

-- While at most spare groups are down and each other group has a circuit free where the routed call
-- stands, NC is answered only after a second head-on collision, whichever mixture is in force.
abbrev pub SufficesMeanwhile : (old new : Plan) → (spare : ℕ) → Type 0
SufficesMeanwhile old new spare =
    AtEachTurn old new (λ m. FewDown m.plan m.moment.before spare
    → OthersFree m.plan m.moment.before m.moment.event
    → IsNcByCollision m.moment.before m.moment.reply)
