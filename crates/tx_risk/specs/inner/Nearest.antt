-- Where the ways from exchanges lead: how far a dead end is, and whether a way home is left.
use Rattle.std.specs.Prelude.{◌≡◌, ◌≢◌, ◌↔◌, ℕ, ◌<◌, ◌≤◌, nat_lt, if◌then◌else◌, Bool, true, false, List, [], ◌++◌, length, map, fold, Option, Some, None, get_or}
use Rattle.std.specs.List.{list_any}
use Rattle.std.specs.Option.{option_and_then, option_map, option_map_or}
use Rattle.tx_plan.specs.Among.{Among}
use Rattle.tx_rank.specs.Walks.{Net, end_of}
use Rattle.tx_rank.specs.Heights.{IsReached}
use Rattle.tx_risk.specs.Risks.{IsDeadEnd, LeadsHome}
use Rattle.tx_risk.specs.Outages.{steps_from}
use Rattle.tx_risk.specs.declared.cut.Leg.{Leg}
use Rattle.tx_risk.specs.declared.nearest.Ways.{Ways}
use Rattle.tx_risk.specs.declared.nearest.Step.{Step}

-- all of these are dead ends, and all dead ends of the order are among them
pub record AreDeadEnds (n : Net) (order ends : List ℕ) : Type 0 where
  pub dead : (x : ℕ) → Among x ends → (x < n.exchanges) × (x ≢ n.home) × (n.list x ≡ [])
  pub all : (x : ℕ) → Among x order → x ≢ n.home → n.list x ≡ [] → Among x ends

-- a way from x leads to a dead end
abbrev pub LeadsToDeadEnd : Net → ℕ → Type 0
LeadsToDeadEnd n x = (steps : List (ℕ × ℕ)) × IsDeadEnd n x steps

-- a way of so many steps to a dead end: this one, by legs from a place on
pub record IsWayBy (n : Net) (legs : List Leg) (x count place end : ℕ) : Type 0 where
  pub dead : IsDeadEnd n x (steps_from legs count place)
  pub long : length (steps_from legs count place) ≡ count
  pub ends : end_of x (steps_from legs count place) ≡ end

-- where the ways from x lead: a shortest one to a dead end, if any leads to one, and whether one
-- leads home
pub record AreWaysFrom (n : Net) (legs : List Leg) (x : ℕ) (ways : Ways) : Type 0 where
  pub way : (d : ℕ) → ways.dead_end ≡ Some d → IsWayBy n legs x d ways.first ways.end
  pub least : (steps : List (ℕ × ℕ)) → IsDeadEnd n x steps
      → (d : ℕ) × (ways.dead_end ≡ Some d) × (d ≤ length steps)
  pub home : ways.home ≡ true ↔ LeadsHome n x

-- all ways lead home
abbrev pub home_alone : Ways
home_alone = record { dead_end = None; end = 0; first = 0; home = true }

-- x is a dead end: no way leads on
abbrev pub dead_end_at : ℕ → Ways
dead_end_at x = record { dead_end = Some 0; end = x; first = 0; home = false }

-- the ways from x that are kept
abbrev pub ways_in : List Ways → ℕ → Ways
ways_in kept x = get_or kept x home_alone

abbrev pub distance_in : List Ways → ℕ → Option ℕ
distance_in kept x = (ways_in kept x).dead_end

-- the ways from each exchange of a walk are kept
abbrev pub AreAllWays : Net → List Leg → List Ways → Type 0
AreAllWays n legs kept = (x : ℕ) → IsReached n x → AreWaysFrom n legs x (ways_in kept x)

-- legs were added, at most one for each exchange
pub record Grows (old new : List Leg) : Type 0 where
  pub more : List Leg
  pub added : new ≡ old ++ more
  pub few : length more ≤ 256

-- the dead ends alone are marked
pub record AreDeadEndsKept (n : Net) (ends : List ℕ) (kept : List Ways) : Type 0 where
  pub long : length kept ≡ n.exchanges
  pub dead : (x : ℕ) → Among x ends → ways_in kept x ≡ dead_end_at x
  pub other : (x : ℕ) → (Among x ends → ⊥) → ways_in kept x ≡ home_alone

-- the step from x by a group, if a way leads to a dead end from where it leads
abbrev pub step_by : Net → List Ways → (x g : ℕ) → Option Step
step_by n kept x g =
    option_and_then (λ y. option_map (λ d. record { group = g; to = y; distance = d })
    (distance_in kept y)) (n.far g x)

-- the nearer of two steps, and the first where they are as near
abbrev pub nearer : Option Step → Option Step → Option Step
nearer None b = b
nearer (Some a) None = Some a
nearer (Some a) (Some b) = if nat_lt b.distance a.distance then Some b else Some a

-- the nearest step from x
abbrev pub nearest_step : Net → List Ways → (x : ℕ) → Option Step
nearest_step n kept x = fold nearer None (map (step_by n kept x) (n.list x))

-- a group leads from x to an exchange from which a way leads home
abbrev pub leads_home : Net → List Ways → (x g : ℕ) → Bool
leads_home n kept x g = option_map_or (λ y. (ways_in kept y).home) (n.far g x) false

abbrev pub has_way_home : Net → List Ways → ℕ → Bool
has_way_home n kept x = list_any (leads_home n kept x) (n.list x)
