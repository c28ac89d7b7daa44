-- The plan in which each exchange has its full list, also where no call comes.
use Rattle.std.specs.Prelude.{ℕ, ◌&&◌, ◌==◌, if◌then◌else◌, List, [], find, is_some}
use Rattle.std.specs.Option.{option_map_or}
use Rattle.tx_cert.specs.Certificate.{Certificate, rank_at}
use Rattle.tx_plan.specs.Plan.{Plan, Route}
use Rattle.tx_plan.specs.Mixed.{rerouted}
use Rattle.tx_mend.specs.Lists.{full_list}
use Rattle.tx_mend.specs.Mended.{route_if, routes_of}

-- the routes of full lists
abbrev pub full_routes : Plan → (limit spare : ℕ) → List Route
full_routes p limit spare = routes_of p (full_list p limit spare)

-- the plan with them
abbrev pub full : Plan → (limit spare : ℕ) → Plan
full p limit spare = rerouted p (full_routes p limit spare) p.bars

-- the list of an exchange for a code among some routes; none without a route
abbrev pub list_among : List Route → (x code : ℕ) → List ℕ
list_among routes x code = option_map_or (λ r. r.groups)
    (find (λ r. (r.exchange == x) && (r.code == code)) routes) []

-- what becomes of a list: it stays if the exchange is ranked for the code, and otherwise is the one
-- among the routes before
abbrev pub settled_list : List Route → Certificate → (x code : ℕ) → List ℕ → List ℕ
settled_list before cert x code list =
    if is_some (rank_at cert code x) then list else list_among before x code

-- what becomes of a route
abbrev pub settled_route : List Route → Certificate → Route → List Route
settled_route before cert r = route_if (r.exchange, r.code)
    (settled_list before cert r.exchange r.code r.groups)
