-- The events that show a finding: one call that goes along its walk.
use Rattle.std.specs.Prelude.{ℕ, Bool, false, true, not, ◌&&◌, ◌==◌, if◌then◌else◌, List, [], ◌∷◌, ◌++◌, length, map, find, Option, Some, None, is_some, option_and_then}
use Rattle.std.specs.Option.{option_map}
use Rattle.std.specs.List.{range_with_len}
use Rattle.tx_text.specs.Words.{before}
use Rattle.tx_plan.specs.Plan.{Plan, home_of, figures_of}
use Rattle.tx_plan.specs.Routes.{route_list}
use Rattle.tx_plan.specs.Circuits.{is_both, direction_of, count_of}
use Rattle.tx_plan.specs.declared.ids.Line.{Line}
use Rattle.tx_plan.specs.declared.range.LineRange.{LineRange}
use Rattle.tx_machine.specs.declared.event.Event.{Event}
use Rattle.tx_machine.specs.declared.event.Event.TheVariants.{Key, Route, Confirm, Block, Unblock}
use Rattle.tx_rank.specs.declared.finding.Finding.{Finding}
use Rattle.tx_rank.specs.declared.finding.Finding.TheVariants.{Ambiguous, Loop, Short, Long}
use Rattle.tx_rank.specs.Walks.{Walk, end_of}

-- the first range of a code
abbrev pub first_range : Plan → ℕ → Option LineRange
first_range p code = find (λ r. r.code == code) p.ranges

-- the code is at home at x, and has a range
abbrev pub calls_from : Plan → ℕ → ℕ → Bool
calls_from p x code = (home_of p code == x) && is_some (first_range p code)

-- the first such code
abbrev pub first_code : Plan → ℕ → Option ℕ
first_code p x = find (calls_from p x) (range_with_len 0 (length p.codes))

-- the line at the low end of a range
abbrev pub low_line : ℕ → LineRange → Line
low_line code r = record { code = code; national = r.low }

-- the low end of the first range of the first code that is at home at x and has a range
abbrev pub first_line : Plan → ℕ → Option Line
first_line p x = option_and_then (λ code. option_map (low_line code) (first_range p code))
    (first_code p x)

-- the groups that a list has before g
abbrev pub listed_before : ℕ → List ℕ → List ℕ
listed_before g list = before (λ h. h == g) list

-- The call goes on by the group g of a list: those before it are blocked while it is routed.
abbrev pub step_events : List ℕ → ℕ → List Event
step_events list g = map Block (listed_before g list)
    ++ (Route 1 ∷ (map Unblock (listed_before g list) ++ (Confirm 1 ∷ [])))

-- the steps in turn, for the code c from x on
abbrev pub walk_events : Plan → ℕ → ℕ → List (ℕ × ℕ) → List Event
walk_events p c x [] = []
walk_events p c x (s ∷ steps) = step_events (route_list p x c) s.0 ++ walk_events p c s.1 steps

-- all groups of the list of x for the code c are blocked, and the call is routed
abbrev pub shut_events : Plan → ℕ → ℕ → List Event
shut_events p c x = map Block (route_list p x c) ++ (Route 1 ∷ [])

-- A line keys the code alone, its call goes along the walk, and then these events come.
abbrev pub walked_by : Plan → ℕ → Walk → List Event → Line → List Event
walked_by p c w last line = Key line (figures_of p c) ∷ (walk_events p c w.start w.steps ++ last)

-- the same, of the first line where the walk starts
abbrev pub events_along : Plan → ℕ → Walk → List Event → Option (List Event)
events_along p c w last = option_map (walked_by p c w last) (first_line p w.start)

-- Both are one both-way group of a single circuit: no call can go back by it.
abbrev pub is_single : Plan → ℕ → ℕ → Bool
is_single p g h = (g == h) && (is_both (direction_of p g) && (count_of p g == 1))

-- the last two steps go by one both-way group of a single circuit
abbrev pub turns_on_one : Plan → List (ℕ × ℕ) → Bool
turns_on_one p [] = false
turns_on_one p (s ∷ []) = false
turns_on_one p (s ∷ t ∷ []) = is_single p s.0 t.0
turns_on_one p (s ∷ t ∷ u ∷ steps) = turns_on_one p (t ∷ u ∷ steps)

-- The events of a finding: none for an ambiguous pair, and for a loop that turns so
abbrev pub counter_of : {A : Type 0} → Plan → Finding A → Option (List Event)
counter_of p (Ambiguous a b) = None
counter_of p (Loop c w) = if turns_on_one p w.steps then None else events_along p c w []
counter_of p (Short c w) = events_along p c w (shut_events p c (end_of w.start w.steps))
counter_of p (Long c w) = events_along p c w []

-- which true findings have events
abbrev pub has_counter : {A : Type 0} → Plan → Finding A → Bool
has_counter p (Ambiguous a b) = false
has_counter p (Loop c w) = not (turns_on_one p w.steps)
has_counter p (Short c w) = true
has_counter p (Long c w) = true

-- the first of both that there is
abbrev pub or_else : Option (List Event) → Option (List Event) → Option (List Event)
or_else (Some events) other = Some events
or_else None other = other

-- the events of the first of some findings that has some
abbrev pub first_counter_of : {A : Type 0} → Plan → List (Finding A) → Option (List Event)
first_counter_of p [] = None
first_counter_of p (f ∷ findings) = or_else (counter_of p f) (first_counter_of p findings)
