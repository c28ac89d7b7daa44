-- The routes and bars that a plan over the joined network takes from one plan.
use Rattle.std.specs.Prelude.{◌≡◌, ◌≢◌, ℕ, Bool, not, ◌||◌, ◌&&◌, ◌==◌, nat_lt, List, length, map, filter}
use Rattle.std.specs.List.{list_any, range_with_len}
use Rattle.tx_plan.specs.declared.ids.Pair.{Pair}
use Rattle.tx_plan.specs.Plan.{Plan, Route}
use Rattle.tx_plan.specs.Rules.{EachPair}
use Rattle.tx_join.specs.Joined.{group_in, has_both, route_in, bar_in}

-- for each group of `from`, the one in j
abbrev pub groups_in : (j from : Plan) → List ℕ
groups_in j from = map (group_in j from) (range_with_len 0 (length from.groups))

-- a list or bar of `from` is taken: the plan is taken whole, or `own` lacks the exchange or the
-- code
abbrev pub takes : (own from : Plan) → (whole : Bool) → (x c : ℕ) → Bool
takes own from whole x c = whole || not (has_both own from x c)

-- the routes that are taken, in j
abbrev pub taken_routes : (j own from : Plan) → (whole : Bool) → List Route
taken_routes j own from whole =
    map (route_in j from) (filter (λ r. takes own from whole r.exchange r.code) from.routes)

-- the bars, of codes before n
abbrev pub taken_bars : (j own from : Plan) → (whole : Bool) → (n : ℕ) → List Pair
taken_bars j own from whole n = filter (λ b. nat_lt b.code n)
    (map (bar_in j from) (filter (λ b. takes own from whole b.exchange b.code) from.bars))

-- no two are for one exchange and one code
abbrev pub RoutesDiffer : List Route → Type 0
RoutesDiffer routes = EachPair (λ r q. r.exchange ≡ q.exchange → r.code ≢ q.code) routes

-- the same of bars
abbrev pub BarsDiffer : List Pair → Type 0
BarsDiffer bars = EachPair (λ b c. b.exchange ≡ c.exchange → b.code ≢ c.code) bars

-- there is a bar for the pair
abbrev pub has_bar : List Pair → Pair → Bool
has_bar bars pair = list_any (λ b. (b.exchange == pair.exchange) && (b.code == pair.code)) bars
