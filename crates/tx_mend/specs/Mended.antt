-- The mended plan.
use Rattle.std.specs.Prelude.{ℕ, not, List, [], ◌∷◌, ◌++◌, length, map, filter}
use Rattle.std.specs.List.{flat_map}
use Rattle.tx_plan.specs.Plan.{Plan, Route}
use Rattle.tx_plan.specs.Declaring.{has_route}
use Rattle.tx_plan.specs.Mixed.{rerouted}
use Rattle.tx_mend.specs.LeastRanks.{indexes}
use Rattle.tx_mend.specs.Lists.{mended_list}

-- an exchange and a code
abbrev pub PairOf : Type 0
PairOf = ℕ × ℕ

-- all pairs, by codes and then by exchanges, each in order of declaration
abbrev pub all_pairs : Plan → List PairOf
all_pairs p =
    flat_map (λ c. map (λ x. (x, c)) (indexes (length p.exchanges))) (indexes (length p.codes))

-- those that have a route, in order of the routes, and then the others
abbrev pub pairs_of : Plan → List PairOf
pairs_of p = map (λ r. (r.exchange, r.code)) p.routes
    ++ filter (λ k. not (has_route p k.0 k.1)) (all_pairs p)

-- a route, unless it has no groups
abbrev pub route_if : PairOf → List ℕ → List Route
route_if k [] = []
route_if k (g ∷ gs) = record { exchange = k.0; code = k.1; groups = g ∷ gs } ∷ []

-- the routes of lists: each pair with its list, unless that is empty
abbrev pub routes_of : Plan → (lists : ℕ → ℕ → List ℕ) → List Route
routes_of p lists = flat_map (λ k. route_if k (lists k.1 k.0)) (pairs_of p)

-- The mended routes, and the plan with them
abbrev pub mended_routes : Plan → (limit spare : ℕ) → List Route
mended_routes p limit spare = routes_of p (mended_list p limit spare)

-- the plan with its mended routes
abbrev pub mended : Plan → (limit spare : ℕ) → Plan
mended p limit spare = rerouted p (mended_routes p limit spare) p.bars
