-- What the mending of a code goes by.
use Rattle.std.specs.Prelude.{ℕ, if◌then◌else◌, List, length, map, Option, Some, None, option_and_then, slice_get}
use Rattle.tx_plan.specs.Plan.{Plan}
use Rattle.tx_mend.specs.LeastRanks.{indexes, RanksOfCode, least_rank, keeps_routes}
use Rattle.tx_mend.specs.KeptRanks.{kept_rank}

-- the ranks of all exchanges, in order
abbrev pub rank_list : Plan → RanksOfCode → List (Option ℕ)
rank_list p ranks = map ranks (indexes (length p.exchanges))

-- the ranks of such a list; none for an exchange that the plan does not have
abbrev pub ranked : List (Option ℕ) → RanksOfCode
ranked ranks x = option_and_then (λ r. r) (slice_get ranks x)

-- the least ranks, unless the code keeps its routes
abbrev pub code_ranks : Plan → (limit spare code : ℕ) → Option (List (Option ℕ))
code_ranks p limit spare code = if keeps_routes p code limit spare then None else Some
    (rank_list p (least_rank p code limit spare))

-- the kept ranks, unless the code keeps its routes
abbrev pub kept_ranks : Plan → (limit spare code : ℕ) → Option (List (Option ℕ))
kept_ranks p limit spare code = if keeps_routes p code limit spare then None else Some
    (rank_list p (kept_rank p code limit spare))
