-- Route lists, bars and origins.
use Rattle.std.specs.Prelude.{ℕ, Bool, not, ◌&&◌, ◌==◌, List, [], find}
use Rattle.std.specs.List.{list_any}
use Rattle.std.specs.Option.{option_map_or}
use Rattle.tx_plan.specs.Plan.{Plan, home_of}

-- the groups that exchange x tries for code c, in order; none where no route is declared
abbrev pub route_list : Plan → ℕ → ℕ → List ℕ
route_list p x c = option_map_or (λ r. r.groups)
    (find (λ r. (r.exchange == x) && (r.code == c)) p.routes) []

-- calls that start at x for c are not admitted
abbrev pub is_barred : Plan → ℕ → ℕ → Bool
is_barred p x c = list_any (λ b. (b.exchange == x) && (b.code == c)) p.bars

-- calls may start here: it is the home of a code that has a range
abbrev pub is_origin : Plan → ℕ → Bool
is_origin p x = list_any (λ r. home_of p r.code == x) p.ranges

-- calls for c may start here
abbrev pub is_origin_for : Plan → ℕ → ℕ → Bool
is_origin_for p x c = is_origin p x && not (is_barred p x c)
