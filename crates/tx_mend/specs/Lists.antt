-- The list that an exchange of a mended plan has for a code.
use Rattle.std.specs.Prelude.{ℕ, zero, suc, Bool, false, ◌&&◌, ◌||◌, ◌==◌, nat_lt, if◌then◌else◌, List, [], ◌∷◌, ◌++◌, length, filter, Option, Some, None}
use Rattle.std.specs.List.{list_any, flat_map}
use Rattle.std.specs.Option.{option_map_or}
use Rattle.tx_plan.specs.Plan.{Plan}
use Rattle.tx_plan.specs.Routes.{route_list, is_origin_for}
use Rattle.tx_plan.specs.Circuits.{other_end}
use Rattle.tx_mend.specs.LeastRanks.{indexes, RanksOfCode, outgoing, rank_across, keeps_routes}
use Rattle.tx_mend.specs.KeptRanks.{leads_below, kept_rank}

-- a group is appended, unless it is there already or there are more than spare
abbrev pub put : (spare : ℕ) → List ℕ → ℕ → List ℕ
put spare list g =
    if nat_lt spare (length list) then list
    else (if list_any (λ h. h == g) list then list else list ++ g ∷ [])

-- the same of each group in turn
abbrev pub filled : (spare : ℕ) → List ℕ → List ℕ → List ℕ
filled spare list [] = list
filled spare list (g ∷ gs) = filled spare (put spare list g) gs

-- a group leads from x to this very rank
abbrev pub leads_to : Plan → RanksOfCode → (m x g : ℕ) → Bool
leads_to p ranks m x g = option_map_or (λ k. k == m) (rank_across p ranks x g) false

-- all groups that x may seize and that lead to ranks below r, by rank and then in order of
-- declaration
abbrev pub groups_below : Plan → RanksOfCode → (r x : ℕ) → List ℕ
groups_below p ranks r x =
    flat_map (λ m. filter (λ g. leads_to p ranks m x g) (outgoing p x)) (indexes r)

-- The list of an exchange of some rank: the groups of its present list that lead to smaller ranks,
-- and then others until there are more than spare. Without a rank it is the present list.
abbrev pub list_of_rank : Plan → RanksOfCode → (code spare x : ℕ) → Option ℕ → List ℕ
list_of_rank p ranks code spare x None = route_list p x code
list_of_rank p ranks code spare x (Some r) = filled spare
    (filter (λ g. leads_below p ranks r x g) (route_list p x code)) (groups_below p ranks r x)

-- the list of an exchange by some ranks
abbrev pub list_by : Plan → RanksOfCode → (code spare x : ℕ) → List ℕ
list_by p ranks code spare x = list_of_rank p ranks code spare x (ranks x)

-- The list of an exchange for a code if a call may come there: its present list where the code
-- keeps its routes, and otherwise that by the kept ranks.
abbrev pub full_list : Plan → (limit spare code x : ℕ) → List ℕ
full_list p limit spare code x =
    if keeps_routes p code limit spare then route_list p x code
    else list_by p (kept_rank p code limit spare) code spare x

-- a group leads from y to x
abbrev pub leads_between : Plan → (y x g : ℕ) → Bool
leads_between p y x g = option_map_or (λ z. z == x) (other_end p g y) false

-- Calls for a code may come to x over at most n groups, where the exchanges have these lists.
abbrev pub comes_in : Plan → (lists : ℕ → List ℕ) → (code n x : ℕ) → Bool
comes_in p lists code zero x = is_origin_for p x code
comes_in p lists code (suc n) x = comes_in p lists code n x
    || list_any (λ y. comes_in p lists code n y && list_any (leads_between p y x) (lists y))
    (indexes (length p.exchanges))

-- Calls for a code may come to x by the mended lists: each exchange that they pass has its full
-- list, and they go over limit + 1 groups at most.
abbrev pub comes_to : Plan → (limit spare code x : ℕ) → Bool
comes_to p limit spare code x = comes_in p (full_list p limit spare code) code (suc limit) x

-- The mended list of an exchange for a code: the present one where no call comes to it
abbrev pub mended_list : Plan → (limit spare code x : ℕ) → List ℕ
mended_list p limit spare code x =
    if comes_to p limit spare code x then full_list p limit spare code x else route_list p x code
