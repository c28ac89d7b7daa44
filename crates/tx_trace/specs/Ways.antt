-- The ways that calls for a code take from an exchange.
use Rattle.std.specs.Prelude.{ℕ, zero, suc, Bool, ◌==◌, if◌then◌else◌, List, [], ◌∷◌, ◌++◌, nat_lt, length, count_by, find, slice_get, Option, None, option_and_then}
use Rattle.std.specs.List.{list_any, filter_map, fold}
use Rattle.std.specs.Option.{option_map, option_map_or, option_to_list}
use Rattle.tx_plan.specs.Plan.{Plan, home_of}
use Rattle.tx_plan.specs.Routes.{route_list}
use Rattle.tx_plan.specs.Circuits.{other_end, count_of}
use Rattle.tx_rank.specs.Walks.{end_of, before_end}

-- it is in the list
abbrev pub is_in : ℕ → List ℕ → Bool
is_in y xs = list_any (λ z. z == y) xs

-- where the groups lead that y tries for the code c, in order; nowhere from the home
abbrev pub far_ends : Plan → (c y : ℕ) → List ℕ
far_ends p c y =
    if y == home_of p c then [] else filter_map (λ g. other_end p g y) (route_list p y c)

-- the step by the group g from y
abbrev pub step_by : Plan → (y g : ℕ) → Option (ℕ × ℕ)
step_by p y g = option_map (λ z. (g, z)) (other_end p g y)

-- the group has a free circuit once the only call has gone this way, by a circuit for each step
abbrev pub has_free : Plan → List (ℕ × ℕ) → (g : ℕ) → Bool
has_free p way g = nat_lt (count_by (λ s. s.0 == g) way) (count_of p g)

-- the step on from y by the first group that y tries and that has one; none from the home
abbrev pub first_step : Plan → (c y : ℕ) → List (ℕ × ℕ) → Option (ℕ × ℕ)
first_step p c y way =
    if y == home_of p c then None
    else option_and_then (step_by p y) (find (has_free p way) (route_list p y c))

-- the way from x ends where it has been before
abbrev pub comes_back : (x : ℕ) → List (ℕ × ℕ) → Bool
comes_back x way = is_in (end_of x way) (before_end x way)

-- the step by which such a way from x goes on; none once it has come back
abbrev pub next_step : Plan → (c x : ℕ) → List (ℕ × ℕ) → Option (ℕ × ℕ)
next_step p c x way = if comes_back x way then None else first_step p c (end_of x way) way

-- the way and its next step
abbrev pub one_on : Plan → (c x : ℕ) → List (ℕ × ℕ) → List (ℕ × ℕ)
one_on p c x way = way ++ option_to_list (next_step p c x way)

-- the way of the only call from x, up to k steps
abbrev pub way_within : Plan → (c x k : ℕ) → List (ℕ × ℕ)
way_within p c x zero = []
way_within p c x (suc k) = one_on p c x (way_within p c x k)

-- The way of the only call: to the home, to an exchange where no group of the list has a free
-- circuit, or to where it comes back. It has no more steps than there are exchanges.
abbrev pub first_way : Plan → (c x : ℕ) → List (ℕ × ℕ)
first_way p c x = way_within p c x (length p.exchanges)

-- an exchange is added, if it was not met yet
abbrev pub meet : List ℕ → ℕ → List ℕ
meet met y = if is_in y met then met else met ++ y ∷ []

-- the exchange at index i adds those to which its groups lead
abbrev pub meet_from : Plan → (c i : ℕ) → List ℕ → List ℕ
meet_from p c i met = fold meet met (option_map_or (far_ends p c) (slice_get met i) [])

-- x, and what the exchanges before index k have added, one after another
abbrev pub met_before : Plan → (c x k : ℕ) → List ℕ
met_before p c x zero = x ∷ []
met_before p c x (suc k) = meet_from p c k (met_before p c x k)

-- all exchanges that calls for c may come to from x, in the order in which they are met by breadth
abbrev pub all_met : Plan → (c x : ℕ) → List ℕ
all_met p c x = met_before p c x (length p.exchanges)
