-- What no routes of a network can serve, and why.
use Rattle.std.specs.Prelude.{ℕ, suc, Bool, ◌&&◌, ◌-◌, nat_lt, if◌then◌else◌, List, [], length, map, filter, is_none}
use Rattle.std.specs.List.{flat_map}
use Rattle.std.specs.Option.{option_map_or}
use Rattle.tx_plan.specs.Plan.{Plan, home_of}
use Rattle.tx_plan.specs.Routes.{is_origin_for}
use Rattle.tx_mend.specs.declared.cause.Cause.{Cause}
use Rattle.tx_mend.specs.declared.cause.Cause.TheVariants.{Rank, Groups}
use Rattle.tx_mend.specs.declared.cause.Missing.{Missing}
use Rattle.tx_mend.specs.declared.cause.Unserved.{Unserved}
use Rattle.tx_mend.specs.LeastRanks.{indexes, RanksOfCode, outgoing, ranked_in, can_follow, leads_on, least_rank, ranks_origins}

-- how many groups lead from x to exchanges that can be served within the limit
abbrev pub groups_on : Plan → (code limit spare x : ℕ) → ℕ
groups_on p code limit spare x =
    length (filter (λ g. leads_on p (least_rank p code limit spare) x g) (outgoing p x))

-- a limit that bounds no rank, since there are at most 256 exchanges
unfoldable pub no_limit : ℕ
no_limit = 254

-- the least rank of an exchange without a limit
abbrev pub unlimited_rank : Plan → (code spare : ℕ) → RanksOfCode
unlimited_rank p code spare = least_rank p code no_limit spare

-- Why an exchange without a least rank cannot be served: the limit is too small for its rank, or it
-- has none whatever the limit, since too few groups lead on.
abbrev pub cause_of : Plan → (code limit spare x : ℕ) → Cause
cause_of p code limit spare x = option_map_or (λ r. Rank r) (unlimited_rank p code spare x)
    (Groups (groups_on p code limit spare x))

-- What cannot be served: each code with each origin for it that has no least rank, in order of
-- declaration
abbrev pub unserved_for : Plan → (limit spare code : ℕ) → List Unserved
unserved_for p limit spare code =
    map (λ x. record { code = code; exchange = x; cause = cause_of p code limit spare x })
    (filter (λ x. is_origin_for p x code && is_none (least_rank p code limit spare x))
    (indexes (length p.exchanges)))

-- what cannot be served, for all codes
abbrev pub unserved : Plan → (limit spare : ℕ) → List Unserved
unserved p limit spare = flat_map (unserved_for p limit spare) (indexes (length p.codes))

-- the ranks up to the limit: an exchange that follows those could be served within it
abbrev pub near_rank : Plan → (code limit spare : ℕ) → RanksOfCode
near_rank p code limit spare = ranked_in (home_of p code) (can_follow p spare) limit

-- how many groups lead from x to exchanges of such a rank
abbrev pub groups_near : Plan → (code limit spare x : ℕ) → ℕ
groups_near p code limit spare x =
    length (filter (λ g. leads_on p (near_rank p code limit spare) x g) (outgoing p x))

-- x cannot be served within the limit: too few groups lead to such exchanges, but some do
abbrev pub lacks_groups : Plan → (code limit spare x : ℕ) → Bool
lacks_groups p code limit spare x =
    is_none (least_rank p code limit spare x) && nat_lt 0 (groups_near p code limit spare x)

-- each such exchange, origin or not, and how many more groups it would need
abbrev pub lacking_at : Plan → (limit spare code : ℕ) → List Missing
lacking_at p limit spare code = map (λ x. record {
  code = code;
  exchange = x;
  groups = suc spare - groups_near p code limit spare x;
}) (filter (lacks_groups p code limit spare) (indexes (length p.exchanges)))

-- Where groups are missing for a code: nowhere if each origin for it can be served
abbrev pub missing_for : Plan → (limit spare code : ℕ) → List Missing
missing_for p limit spare code =
    if ranks_origins p code (least_rank p code limit spare) then []
    else lacking_at p limit spare code

-- where groups are missing, for all codes
abbrev pub missing : Plan → (limit spare : ℕ) → List Missing
missing p limit spare = flat_map (missing_for p limit spare) (indexes (length p.codes))
