-- A plan of which some groups are down, as calls see it.
use Rattle.std.specs.Prelude.{◌≡◌, ℕ, Bool, true, false, not, ◌==◌, List, map, filter, length}
use Rattle.std.specs.FinSet as set
use Rattle.tx_plan.specs.Plan.{Plan, Route}
use Rattle.tx_plan.specs.Mixed.{rerouted}
use Rattle.tx_machine.specs.declared.event.Event.{Event}
use Rattle.tx_machine.specs.declared.event.Event.TheVariants.{Block, Unblock}
use Rattle.tx_machine.specs.State.{State}
use Rattle.tx_trace.specs.Ways.{is_in}

-- the groups of a list that are not down
abbrev pub groups_left : (down : List ℕ) → List ℕ → List ℕ
groups_left down groups = filter (λ g. not (is_in g down)) groups

-- a route with these groups alone
abbrev pub route_left : (down : List ℕ) → Route → Route
route_left down r = record r { groups = groups_left down r.groups }

-- the routes of which a group is left
abbrev pub routes_left : (down : List ℕ) → List Route → List Route
routes_left down routes = filter (λ r. not (length r.groups == 0)) (map (route_left down) routes)

-- The plan with these routes alone
abbrev pub plan_left : Plan → (down : List ℕ) → Plan
plan_left p down = rerouted p (routes_left down p.routes) p.bars

-- just these groups are blocked
abbrev pub AreBlocked : State → (down : List ℕ) → Type 0
AreBlocked s down = (g : ℕ) → set.contains s.blocked g ≡ is_in g down

-- no group is blocked, and all else is the same
abbrev pub unblocked : State → State
unblocked s = record s { blocked = set.empty }

-- an event that blocks a group, or unblocks it
abbrev pub is_blocking : Event → Bool
is_blocking (Block g) = true
is_blocking (Unblock g) = true
is_blocking other = false
