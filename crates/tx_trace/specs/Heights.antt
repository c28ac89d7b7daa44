-- How far exchanges are above the home of a code, computed.
use Rattle.std.specs.Prelude.{ℕ, zero, suc, ◌==◌, if◌then◌else◌, List, [], ◌∷◌, length, map, max, Option, Some, None, is_some}
use Rattle.std.specs.Option.{option_map}
use Rattle.tx_plan.specs.Plan.{Plan, home_of}
use Rattle.tx_trace.specs.Ways.{far_ends}

-- the greater of two numbers, if both are known
abbrev pub greater : Option ℕ → Option ℕ → Option ℕ
greater None b = None
greater (Some a) None = None
greater (Some a) (Some b) = Some (max a b)

-- the greatest of some numbers, if all are known
abbrev pub greatest : List (Option ℕ) → Option ℕ
greatest [] = Some 0
greatest (a ∷ rest) = greater a (greatest rest)

-- one more than the greatest; none where there is no number
abbrev pub one_above : List (Option ℕ) → Option ℕ
one_above [] = None
one_above (a ∷ rest) = option_map suc (greatest (a ∷ rest))

-- The steps of the longest way from y to the home, where each way from y is there within k steps;
-- none where one is not, since it is longer, comes back, or ends at an exchange without a list.
abbrev pub height_within : Plan → (c k y : ℕ) → Option ℕ
height_within p c zero y = if y == home_of p c then Some 0 else None
height_within p c (suc k) y =
    if y == home_of p c then Some 0 else one_above (map (height_within p c k) (far_ends p c y))

-- The height of y. A way that does not come back has fewer steps than there are exchanges.
abbrev pub height : Plan → (c y : ℕ) → Option ℕ
height p c y = height_within p c (length p.exchanges) y

-- the rank of y in a trace from x: its height, where x has one, and so each exchange met has one
abbrev pub rank_from : Plan → (c x y : ℕ) → Option ℕ
rank_from p c x y = if is_some (height p c x) then height p c y else None
