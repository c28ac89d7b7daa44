-- The circuits that are taken, and the most of a group that were at once.
use Rattle.std.specs.Prelude.{ℕ, Bool, ◌||◌, List, [], ◌∷◌, max}
use Rattle.std.specs.List.{list_any, count_by}
use Rattle.std.specs.FinSet as set
use Rattle.tx_plan.specs.Orders.{same_circuit}
use Rattle.tx_plan.specs.Plan.{Plan}
use Rattle.tx_plan.specs.Circuits.{count_of, upward}
use Rattle.tx_plan.specs.declared.ids.Circuit.{Circuit}
use Rattle.tx_machine.specs.Call.{Call}
use Rattle.tx_machine.specs.State.{State}
use Rattle.tx_machine.specs.InUse.{circuits_used}
use Rattle.tx_machine.specs.Runs.{Moment}

-- a call uses a circuit if it carries it or has seized it
abbrev pub uses : Circuit → Call → Bool
uses x c = list_any (λ y. same_circuit y x) (circuits_used c)

-- a circuit is taken if a call uses it, or if it is releasing
abbrev pub is_taken : State → Circuit → Bool
is_taken s x = set.contains s.releasing x || list_any (uses x) s.calls

-- how many circuits of a group are taken
abbrev pub taken_of : Plan → ℕ → State → ℕ
taken_of p g s = count_by (λ n. is_taken s (record { group = g; number = n }))
    (upward (count_of p g))

-- the most that were taken at once after an event of a run
abbrev pub peak : Plan → ℕ → List Moment → ℕ
peak p g [] = 0
peak p g (m ∷ ms) = max (taken_of p g m.after) (peak p g ms)
