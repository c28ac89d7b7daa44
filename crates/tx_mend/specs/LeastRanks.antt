-- The least ranks that any routes of a network can have, round by round.
use Rattle.std.specs.Prelude.{◌≡◌, ◌≤◌, ℕ, zero, suc, Bool, not, ◌&&◌, ◌||◌, ◌==◌, nat_lt, if◌then◌else◌, List, length, filter, Option, Some, None, is_some, option_and_then}
use Rattle.std.specs.List.{list_all, range_with_len}
use Rattle.tx_plan.specs.Plan.{Plan, home_of}
use Rattle.tx_plan.specs.Routes.{route_list, is_origin_for}
use Rattle.tx_plan.specs.Circuits.{other_end, may_seize}
use Rattle.tx_plan.specs.Certified.{Ranks}
use Rattle.tx_mend.specs.Routings.{IsRouting, IsFalling}

-- the indexes of a list of so many entries, in order
abbrev pub indexes : ℕ → List ℕ
indexes n = range_with_len 0 n

-- a rank for some exchanges
abbrev pub RanksOfCode : Type 0
RanksOfCode = ℕ → Option ℕ

-- the groups that an exchange may seize, in order of declaration
abbrev pub outgoing : Plan → ℕ → List ℕ
outgoing p x = filter (λ g. may_seize p g x) (indexes (length p.groups))

-- the rank of the exchange to which a group leads from x
abbrev pub rank_across : Plan → RanksOfCode → ℕ → ℕ → Option ℕ
rank_across p ranks x g = option_and_then ranks (other_end p g x)

-- it leads to a ranked exchange
abbrev pub leads_on : Plan → RanksOfCode → ℕ → ℕ → Bool
leads_on p ranks x g = is_some (rank_across p ranks x g)

-- Rounds, for a rule that says which exchanges may follow those that are ranked

-- a rank stays; an exchange without one gets n if it may follow
abbrev pub kept_or : Option ℕ → Bool → ℕ → Option ℕ
kept_or (Some r) follows n = Some r
kept_or None follows n = if follows then Some n else None

-- The ranks after n rounds: the home has rank 0, and in round n each exchange without a rank gets n
-- if it follows the ranked ones.
abbrev pub ranked_in : (home : ℕ) → (follows : RanksOfCode → ℕ → Bool) → ℕ → RanksOfCode
ranked_in home follows zero x = if x == home then Some 0 else None
ranked_in home follows (suc n) x =
    kept_or (ranked_in home follows n x) (follows (ranked_in home follows n) x) (suc n)

-- whatever the routes: x may seize more than spare groups that lead to ranked exchanges
abbrev pub can_follow : Plan → (spare : ℕ) → RanksOfCode → ℕ → Bool
can_follow p spare ranks x =
    nat_lt spare (length (filter (λ g. leads_on p ranks x g) (outgoing p x)))

-- by the present routes: the list of x for a code has more than spare groups, and each leads to a
-- ranked exchange
abbrev pub does_follow : Plan → (code spare : ℕ) → RanksOfCode → ℕ → Bool
does_follow p code spare ranks x =
    nat_lt spare (length (route_list p x code))
    && list_all (λ g. leads_on p ranks x g) (route_list p x code)

-- The least rank of an exchange for a code, at most limit + 1
abbrev pub least_rank : Plan → (code limit spare : ℕ) → RanksOfCode
least_rank p code limit spare x =
    ranked_in (home_of p code) (can_follow p spare) (suc limit) x

-- the rank of an exchange by the present routes, at most limit + 1
abbrev pub present_rank : Plan → (code limit spare : ℕ) → RanksOfCode
present_rank p code limit spare x =
    ranked_in (home_of p code) (does_follow p code spare) (suc limit) x

-- each origin for a code has a rank
abbrev pub ranks_origins : Plan → (code : ℕ) → RanksOfCode → Bool
ranks_origins p code ranks = list_all (λ x. not (is_origin_for p x code) || is_some (ranks x))
    (indexes (length p.exchanges))

-- a code keeps its routes: by them each origin has a rank
abbrev pub keeps_routes : Plan → (code limit spare : ℕ) → Bool
keeps_routes p code limit spare = ranks_origins p code (present_rank p code limit spare)

-- Least ranks are least: wherever ranks that fall along any routes of the network rank an exchange,
-- it has a least rank, and that is no greater.
abbrev pub LeastRanksAreLeast : Type 0
LeastRanksAreLeast = (p q : Plan) → IsRouting p q → (ranks : Ranks) (code limit spare : ℕ)
    → IsFalling q ranks code limit spare → (x r : ℕ) → ranks code x ≡ Some r
    → (n : ℕ) × (least_rank p code limit spare x ≡ Some n) × (n ≤ r)
