-- Why two plans have no joined network.
use Rattle.std.specs.Prelude.{◌≡◌, ◌⊎◌, ℕ, Bool, true, false, not, ◌&&◌, ◌||◌, nat_lt, length, find, if◌then◌else◌, Option, Some, None}
use Rattle.std.specs.List.{range_with_len}
use Rattle.std.specs.Option.{option_map, option_map_or, option_or}
use Rattle.std.specs.Str.{bytes_eq}
use Rattle.tx_plan.specs.declared.ids.Direction.{Direction}
use Rattle.tx_plan.specs.declared.ids.Direction.TheVariants.{OneWay, BothWay}
use Rattle.tx_plan.specs.Plan.{Plan, code_named, group_named, exchange_name, figures_of, group_name, home_of}
use Rattle.tx_plan.specs.Circuits.{ends_of, direction_of}
use Rattle.tx_join.specs.declared.refusal.JoinRefusal.{JoinRefusal}
use Rattle.tx_join.specs.declared.refusal.JoinRefusal.TheVariants.{OtherHome, OtherGroup, TooMany, NoMemory}
use Rattle.tx_join.specs.Joined.{joined_network}

-- an exchange of one plan has the name of one of the other
abbrev pub is_same_exchange : (old new : Plan) → (x y : ℕ) → Bool
is_same_exchange old new x y = bytes_eq (exchange_name old x) (exchange_name new y)

-- both are one-way, or both are both-way
abbrev pub is_same_direction : Direction → Direction → Bool
is_same_direction OneWay OneWay = true
is_same_direction OneWay BothWay = false
is_same_direction BothWay OneWay = false
is_same_direction BothWay BothWay = true

-- a group of one plan has the ends and the direction of one of the other, with the same first end
abbrev pub is_same_group : (old new : Plan) → (g h : ℕ) → Bool
is_same_group old new g h =
    is_same_exchange old new (ends_of old g).0 (ends_of new h).0
    && (is_same_exchange old new (ends_of old g).1 (ends_of new h).1
    && is_same_direction (direction_of old g) (direction_of new h))

-- the old plan has a code of the new one at another home
abbrev pub has_other_home : (old new : Plan) → ℕ → Bool
has_other_home old new c = option_map_or
    (λ d. not (is_same_exchange old new (home_of old d) (home_of new c)))
    (code_named old (figures_of new c)) false

-- the old plan has a group of the name of one of the new plan, and it is another one
abbrev pub has_other_group : (old new : Plan) → ℕ → Bool
has_other_group old new g = option_map_or (λ h. not (is_same_group old new h g))
    (group_named old (group_name new g)) false

-- there are more entries than a plan may have
abbrev pub has_too_many : Plan → Bool
has_too_many p = nat_lt 256 (length p.exchanges)
    || (nat_lt 1100 (length p.codes) || nat_lt 4096 (length p.groups))

-- a refusal, if its test is passed
abbrev pub refused_if : Bool → JoinRefusal → Option JoinRefusal
refused_if b refusal = if b then Some refusal else None

-- The first refusal that applies: of the codes of the new plan, then of its groups, and then of
-- what both plans have together
abbrev pub join_refusal : (old new : Plan) → Option JoinRefusal
join_refusal old new =
    option_or (option_map OtherHome
    (find (has_other_home old new) (range_with_len 0 (length new.codes))))
    (option_or (option_map OtherGroup
    (find (has_other_group old new) (range_with_len 0 (length new.groups))))
    (refused_if (has_too_many (joined_network old new)) TooMany))

-- it is the first that applies, or lack of memory where none does
abbrev pub IsRefusedAs : (old new : Plan) → JoinRefusal → Type 0
IsRefusedAs old new e = (join_refusal old new ≡ Some e)
    ⊎ ((join_refusal old new ≡ None) × (e ≡ NoMemory))
