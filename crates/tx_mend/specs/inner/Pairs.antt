-- The pairs of a plan, as the full routes are made of them.
use Rattle.std.specs.Prelude.{ℕ, Bool, not, List, ◌++◌, length, map, filter}
use Rattle.std.specs.List.{flat_map}
use Rattle.tx_plan.specs.Plan.{Plan, Route}
use Rattle.tx_plan.specs.Declaring.{has_route}
use Rattle.tx_mend.specs.LeastRanks.{indexes}
use Rattle.tx_mend.specs.Lists.{full_list}
use Rattle.tx_mend.specs.Mended.{route_if}

-- the pairs that have a route, in order of the routes
abbrev pub present_pairs : Plan → List (ℕ × ℕ)
present_pairs p = map (λ r. (r.exchange, r.code)) p.routes

-- the pairs of a code and the first n exchanges
abbrev pub pairs_for : ℕ → ℕ → List (ℕ × ℕ)
pairs_for n c = map (λ x. (x, c)) (indexes n)

-- a pair has no route
abbrev pub is_absent : Plan → ℕ × ℕ → Bool
is_absent p k = not (has_route p k.0 k.1)

-- the pairs without a route, of the codes before c
abbrev pub absent_below : Plan → ℕ → List (ℕ × ℕ)
absent_below p c =
    filter (is_absent p) (flat_map (pairs_for (length p.exchanges)) (indexes c))

-- the route of a pair with its full list, if that has groups
abbrev pub full_route : Plan → (limit spare : ℕ) → ℕ × ℕ → List Route
full_route p limit spare k = route_if k (full_list p limit spare k.1 k.0)

-- those of all pairs that have a route, and of the others of the codes before c
abbrev pub routes_below : Plan → (limit spare c : ℕ) → List Route
routes_below p limit spare c =
    flat_map (full_route p limit spare) (present_pairs p ++ absent_below p c)
