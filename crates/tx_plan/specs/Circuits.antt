-- Circuits, the ends that may seize them, and the order in which an end looks at them.
use Rattle.std.specs.Prelude.{ℕ, zero, suc, Bool, true, false, ◌&&◌, ◌||◌, ◌==◌, nat_le, if◌then◌else◌, List, [], ◌∷◌, ◌++◌, map, Option, Some, None, option_and_then, slice_get}
use Rattle.std.specs.Option.{option_map_or}
use Rattle.tx_plan.specs.Plan.{Plan, Group}
use Rattle.tx_plan.specs.declared.ids.Circuit.{Circuit}
use Rattle.tx_plan.specs.declared.ids.Direction.{Direction}
use Rattle.tx_plan.specs.declared.ids.Direction.TheVariants.{OneWay, BothWay}

-- both ends may seize
abbrev pub is_both : Direction → Bool
is_both OneWay = false
is_both BothWay = true

-- the exchange across the group from x, if x is an end of it
abbrev pub far_end : Group → ℕ → Option ℕ
far_end g x = if g.a == x then Some g.b else if g.b == x then Some g.a else None

-- the exchange across a group of the plan from x, if x is an end of it
abbrev pub other_end : Plan → ℕ → ℕ → Option ℕ
other_end p g x = option_and_then (λ r. far_end r x) (slice_get p.groups g)

-- the first end may seize, and of a both-way group the other end too
abbrev pub may_seize_row : Group → ℕ → Bool
may_seize_row r x = (r.a == x) || (is_both r.direction && (r.b == x))

-- exchange x may seize a group of the plan
abbrev pub may_seize : Plan → ℕ → ℕ → Bool
may_seize p g x = option_map_or (λ r. may_seize_row r x) (slice_get p.groups g) false

-- from which ends a group may be seized; the first only for an index that the plan does not have
abbrev pub direction_of : Plan → ℕ → Direction
direction_of p g = option_map_or (λ r. r.direction) (slice_get p.groups g) OneWay

-- how many circuits a group has; none for an index that the plan does not have
abbrev pub count_of : Plan → ℕ → ℕ
count_of p g = option_map_or (λ r. r.count) (slice_get p.groups g) 0

-- both ends of a group, the first one first; the first exchange twice for an index that the plan
-- does not have
abbrev pub ends_of : Plan → ℕ → ℕ × ℕ
ends_of p g = option_map_or (λ r. (r.a, r.b)) (slice_get p.groups g) (0, 0)

-- a group of the plan, and a number from 1 to its count
abbrev pub is_circuit : Plan → Circuit → Bool
is_circuit p x = option_map_or (λ r. nat_le 1 x.number && nat_le x.number r.count)
    (slice_get p.groups x.group) false

-- from n down to 1
abbrev pub downward : ℕ → List ℕ
downward zero = []
downward (suc n) = suc n ∷ downward n

-- from 1 up to n
abbrev pub upward : ℕ → List ℕ
upward zero = []
upward (suc n) = upward n ++ suc n ∷ []

-- the numbers of a group's circuits in the order in which an exchange looks at them: rising at the
-- first end, falling at the other
abbrev pub order_at : Group → ℕ → List ℕ
order_at r x = if r.a == x then upward r.count else downward r.count

-- the circuits of a group in the order in which exchange x looks at them
abbrev pub circuits_at : Plan → ℕ → ℕ → List Circuit
circuits_at p g x = option_map_or (λ r. map (λ n. record { group = g; number = n }) (order_at r x))
    (slice_get p.groups g) []
