-- Two plans over one network. It has the exchanges, codes and groups of the old plan, and then
-- those that the new plan has more. They are known by their names, and the lines are the old
-- plan's.
use Rattle.std.specs.Prelude.{ℕ, ◌-◌, max, Bool, not, ◌&&◌, ◌==◌, nat_lt, List, [], ◌++◌, length, map, filter, flat_map, position, unwrap_or}
use Rattle.std.specs.List.{range_with_len}
use Rattle.std.specs.Option.{option_map_or}
use Rattle.std.specs.Str.{bytes_eq}
use Rattle.tx_plan.specs.declared.ids.Pair.{Pair}
use Rattle.tx_plan.specs.Plan.{Plan, Code, Group, Route, exchange_name, figures_of, group_name, group_named, home_of}
use Rattle.tx_plan.specs.Circuits.{count_of}
use Rattle.tx_plan.specs.Declaring.{has_exchange, has_code, has_group, exchange_at, code_at, group_at}
use Rattle.tx_plan.specs.Mixed.{rerouted}

-- THE NETWORK

-- the exchanges of the old plan, and then the others of the new one
abbrev pub joined_exchanges : (old new : Plan) → List (List ℕ)
joined_exchanges old new = old.exchanges ++ filter (λ x. not (has_exchange old x)) new.exchanges

-- the index there of an exchange of the new plan
abbrev pub joined_exchange : (old new : Plan) → ℕ → ℕ
joined_exchange old new x =
    unwrap_or (position (bytes_eq (exchange_name new x)) (joined_exchanges old new)) 0

-- a code of the new plan
abbrev pub joined_code : (old new : Plan) → Code → Code
joined_code old new c = record c { home = joined_exchange old new c.home }

-- a group of the new plan
abbrev pub joined_group : (old new : Plan) → Group → Group
joined_group old new g =
    record g { a = joined_exchange old new g.a; b = joined_exchange old new g.b }

-- how many circuits the group of a name has; none where there is no such group
abbrev pub circuits_named : Plan → List ℕ → ℕ
circuits_named p name = option_map_or (count_of p) (group_named p name) 0

-- a group of the old plan, with as many circuits as either plan gives it
abbrev pub widened : Plan → Group → Group
widened new g = record g { count = max g.count (circuits_named new g.name) }

-- The joined network. It has no routes and no bars.
abbrev pub joined_network : (old new : Plan) → Plan
joined_network old new = record {
  exchanges = joined_exchanges old new;
  codes = old.codes
      ++ map (joined_code old new) (filter (λ c. not (has_code old c.figures)) new.codes);
  ranges = old.ranges;
  groups = map (widened new) old.groups
      ++ map (joined_group old new) (filter (λ g. not (has_group old g.name)) new.groups);
  routes = [];
  bars = [];
}

-- THE PLANS OVER IT

-- the index in the plan q of an exchange of the plan p
abbrev pub exchange_in : (q p : Plan) → ℕ → ℕ
exchange_in q p x = exchange_at q (exchange_name p x)

-- that of a code
abbrev pub code_in : (q p : Plan) → ℕ → ℕ
code_in q p c = code_at q (figures_of p c)

-- that of a group
abbrev pub group_in : (q p : Plan) → ℕ → ℕ
group_in q p g = group_at q (group_name p g)

-- a route of p, in q
abbrev pub route_in : (q p : Plan) → Route → Route
route_in q p r = record {
  exchange = exchange_in q p r.exchange;
  code = code_in q p r.code;
  groups = map (group_in q p) r.groups;
}

-- a bar of p, in q
abbrev pub bar_in : (q p : Plan) → Pair → Pair
bar_in q p b = record { exchange = exchange_in q p b.exchange; code = code_in q p b.code }

-- q has an exchange and a code of p
abbrev pub has_both : (q p : Plan) → (x c : ℕ) → Bool
has_both q p x c = has_exchange q (exchange_name p x) && has_code q (figures_of p c)

-- the routes of p for an exchange or a code that q does not have
abbrev pub routes_alone : (p q : Plan) → List Route
routes_alone p q = filter (λ r. not (has_both q p r.exchange r.code)) p.routes

-- the bars, likewise
abbrev pub bars_alone : (p q : Plan) → List Pair
bars_alone p q = filter (λ b. not (has_both q p b.exchange b.code)) p.bars

-- the routes of p, and those that q has alone, in j
abbrev pub routes_over : (j p q : Plan) → List Route
routes_over j p q = map (route_in j p) p.routes ++ map (route_in j q) (routes_alone q p)

-- a bar at each exchange but the home of a code
abbrev pub bars_of_code : Plan → ℕ → List Pair
bars_of_code j c = map (λ x. record { exchange = x; code = c })
    (filter (λ x. not (home_of j c == x)) (range_with_len 0 (length j.exchanges)))

-- that for each code from n on
abbrev pub bars_from : Plan → ℕ → List Pair
bars_from j n = flat_map (bars_of_code j) (range_with_len n (length j.codes - n))

-- the bars, likewise
abbrev pub shared_bars : (j p q : Plan) → List Pair
shared_bars j p q = map (bar_in j p) p.bars ++ map (bar_in j q) (bars_alone q p)

-- those for codes below n
abbrev pub bars_below : (n : ℕ) → List Pair → List Pair
bars_below n bars = filter (λ b. nat_lt b.code n) bars

-- these of both plans; the codes from n on are barred everywhere but at home
abbrev pub bars_over : (j p q : Plan) → (n : ℕ) → List Pair
bars_over j p q n = bars_below n (shared_bars j p q) ++ bars_from j n

-- The plan p over the network j, with the lists and bars of q for what p does not have, and with
-- the codes from n on closed
abbrev pub plan_over : (j p q : Plan) → (n : ℕ) → Plan
plan_over j p q n = rerouted j (routes_over j p q) (bars_over j p q n)

-- the old plan over the joined network: the codes of the new plan alone are not admitted yet
abbrev pub joined_old : (old new : Plan) → Plan
joined_old old new = plan_over (joined_network old new) old new (length old.codes)

-- the new plan over it, likewise
abbrev pub joined_new : (old new : Plan) → Plan
joined_new old new = plan_over (joined_network old new) new old (length old.codes)
