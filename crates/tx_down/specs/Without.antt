-- A plan without some groups of its network.
use Rattle.std.specs.Prelude.{ℕ, Bool, not, ◌==◌, List, [], length, map, filter}
use Rattle.std.specs.List.{list_any, filter_map}
use Rattle.std.specs.Str.{bytes_eq}
use Rattle.tx_plan.specs.Plan.{Plan, Route, group_name, group_named}
use Rattle.tx_plan.specs.Mixed.{rerouted}

-- one of these groups has this name
abbrev pub is_one_of : Plan → (down : List ℕ) → (name : List ℕ) → Bool
is_one_of p down name = list_any (λ g. bytes_eq (group_name p g) name) down

-- the network without these groups; it has no routes and no bars
abbrev pub network_without : Plan → (down : List ℕ) → Plan
network_without p down = record p {
  groups = filter (λ g. not (is_one_of p down g.name)) p.groups;
  routes = [];
  bars = [];
}

-- the groups of a list of p that the network w has, as they are known there
abbrev pub list_over : (w p : Plan) → List ℕ → List ℕ
list_over w p groups = filter_map (λ g. group_named w (group_name p g)) groups

-- a route with these groups alone
abbrev pub route_over : (w p : Plan) → Route → Route
route_over w p r = record r { groups = list_over w p r.groups }

-- the routes of which it has a group
abbrev pub routes_over : (w p : Plan) → List Route
routes_over w p = filter (λ r. not (length r.groups == 0)) (map (route_over w p) p.routes)

-- The plan without these groups, and without the lists that have no others
abbrev pub plan_without : Plan → (down : List ℕ) → Plan
plan_without p down =
    rerouted (network_without p down) (routes_over (network_without p down) p) p.bars
