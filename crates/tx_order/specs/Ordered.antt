-- An order as it is kept: two plans, and the stages of each code.
use Rattle.std.specs.Prelude.{◌≡◌, ℕ, List, length, slice_get, Some}
use Rattle.tx_plan.specs.Plan.{Plan}
use Rattle.tx_order.specs.Fronts.{front_at, count_of}
use Rattle.tx_order.specs.Transitions.{Transition, IsTransition, plan_with}
use Rattle.tx_order.specs.Joined.{AreAllStages}

-- A transition, and of each code the fronts at which its stages end. A stage of the order is that
-- stage of each code.
pub record Order : Type 0 where
  pub transition : Transition
  pub codes : List (List ℕ)

-- the fronts of the codes before a stage
abbrev pub fronts_before : Order → (s c : ℕ) → ℕ
fronts_before o s c = front_at o.transition.limit o.codes s c

-- the plan before a stage, from 0
abbrev pub plan_before : Order → ℕ → Plan
plan_before o s = plan_with o.transition (fronts_before o s)

-- how many stages
abbrev pub stages_in : Order → ℕ
stages_in o = count_of o.codes

-- the stages of each code before the code c
pub record AreStagesBelow (w : Transition) (c : ℕ) (codes : List (List ℕ)) : Type 0 where
  pub long : length codes ≡ c
  pub each : (d : ℕ) (ends : List ℕ) → slice_get codes d ≡ Some ends → AreAllStages w d ends

-- both plans are certified, and each code has its stages
pub record IsOrderKept (o : Order) : Type 0 where
  pub transition : IsTransition o.transition
  pub stages : AreStagesBelow o.transition (length o.transition.old.codes) o.codes
