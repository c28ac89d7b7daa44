-- Runs over the stages of an order, on and back, with calls up.
use Rattle.std.specs.Prelude.{◌≡◌, ◌≢◌, ℕ, ◌+◌, ◌*◌, ◌<◌, ◌≤◌, Bool, true, false, not, List, [], ◌∷◌, map}
use Rattle.std.specs.List.{list_any, AllByRecursion}
use Rattle.tx_plan.specs.Plan.{Plan}
use Rattle.tx_plan.specs.Rules.{IsPlan}
use Rattle.tx_plan.specs.Mixtures.{SameNetwork, IsMixture}
use Rattle.tx_machine.specs.Call.{Call, is_connected}
use Rattle.tx_machine.specs.State.{State, opening}
use Rattle.tx_machine.specs.Step.{step}
use Rattle.tx_machine.specs.Excused.{FewDown, OthersFree, IsNcByCollision}
use Rattle.tx_machine.specs.Sound.{routes_of}
use Rattle.tx_machine.specs.ChangingRuns.{Turn, Switched, changing_run, IsSafeByEach, IsExcusedThen}

-- an open call is being set up until it is connected
abbrev pub is_being_set_up : Call → Bool
is_being_set_up c = not (is_connected c.phase)

-- in a stage, a mixture of the plan before it and the plan after it is in force
pub record IsInForceIn (plans : ℕ → Plan) (stages stage : ℕ) (p : Plan) : Type 0 where
  pub within : stage < stages
  pub mixture : IsMixture (plans stage) (plans (stage + 1)) p

-- At an event a plan of the network is in force. For each call that is being set up, it is one of
-- the stage that this call has by its number.
pub record IsInStages (plans : ℕ → Plan) (stages : ℕ) (stage_of : ℕ → ℕ) (m : Switched)
    : Type 0 where
  pub rules : IsPlan m.plan
  pub network : SameNetwork (plans 0) m.plan
  pub calls : AllByRecursion (λ c. is_being_set_up c ≡ true
      → IsInForceIn plans stages (stage_of c.number) m.plan) m.moment.before.calls

-- A run in stages: each call has one stage, and while it is being set up, only mixtures of this
-- stage are in force.
abbrev pub AreInStages : (plans : ℕ → Plan) → (stages : ℕ) → List Switched → Type 0
AreInStages plans stages run = (stage_of : ℕ → ℕ)
    × AllByRecursion (IsInStages plans stages stage_of) run

-- a turn, and the number of the stage in which it comes
pub record StagedTurn : Type 0 where
  pub stage : ℕ
  pub turn : Turn

-- A turn in a stage: a mixture of this stage is in force. If the turn before was in another one,
-- the stage begins, and no open call is being set up.
pub record IsStagedTurn (plans : ℕ → Plan) (stages before : ℕ) (s : State) (t : StagedTurn)
    : Type 0 where
  pub in_force : IsInForceIn plans stages t.stage t.turn.plan
  pub begins : t.stage ≢ before → list_any is_being_set_up s.calls ≡ false

-- the turns after one in the stage before, from a state on
abbrev pub AreStagedTurns : (plans : ℕ → Plan) → (stages before : ℕ) → State → List StagedTurn
    → Type 0
AreStagedTurns plans stages before s [] = Unit {0}
AreStagedTurns plans stages before s (t ∷ turns) = IsStagedTurn plans stages before s t
    × AreStagedTurns plans stages t.stage (step t.turn.plan s t.turn.event).1 turns

-- it holds at each event of every such run, from every opening state
abbrev pub AtEachTurnInStages : (plans : ℕ → Plan) → (stages : ℕ) → (Switched → Type 0) → Type 0
AtEachTurnInStages plans stages Holds =
    (numbers count : ℕ) (turns : List Turn)
    → AreInStages plans stages (changing_run (opening numbers count) turns)
    → AllByRecursion Holds (changing_run (opening numbers count) turns)

-- Stages are sound: in each such run every state is safe by each plan of the network, and every NC
-- is excused by the list in force when it was answered.
pub record AreSoundStages (plans : ℕ → Plan) (stages limit spare : ℕ) : Type 0 where
  pub first : (numbers count : ℕ) → IsSafeByEach (plans 0) limit (opening numbers count)
  pub safe : AtEachTurnInStages plans stages (λ m. IsSafeByEach (plans 0) limit m.moment.after)
  pub excused : AtEachTurnInStages plans stages (IsExcusedThen spare)

-- at most two Routes of one call at each exchange before the home of its code, and one there
abbrev pub HaveFewRoutes : (plans : ℕ → Plan) → (stages limit : ℕ) → Type 0
HaveFewRoutes plans stages limit =
    (numbers count : ℕ) (turns : List Turn) (n : ℕ)
    → AreInStages plans stages (changing_run (opening numbers count) turns)
    → routes_of n (map (λ m. m.moment) (changing_run (opening numbers count) turns)) ≤ 2 * limit + 3

-- while at most spare groups are down and each other group has a circuit free where the routed call
-- stands, NC is answered only after a second head-on collision
abbrev pub SufficeInStages : (plans : ℕ → Plan) → (stages spare : ℕ) → Type 0
SufficeInStages plans stages spare =
    AtEachTurnInStages plans stages (λ m. FewDown m.plan m.moment.before spare
    → OthersFree m.plan m.moment.before m.moment.event
    → IsNcByCollision m.moment.before m.moment.reply)
