-- Levels: in which order the lists of a code are switched, and its bars.
use Rattle.std.specs.Prelude.{ℕ, ◌+◌, ◌*◌, ◌-◌, Bool, true, false, nat_lt, nat_le, if◌then◌else◌, Option, Some, None}
use Rattle.tx_plan.specs.Plan.{Plan}
use Rattle.tx_plan.specs.Certified.{Ranks}
use Rattle.tx_plan.specs.Routes.{is_barred}

-- how many levels there are
abbrev pub levels_of : ℕ → ℕ
levels_of limit = 2 * (limit + 2)

-- The level of a list, by the old rank and the new rank of its exchange, each at most limit + 1.
-- Where the rank falls or stays, it is the new rank. All other lists come after these, in
-- descending order of the old rank. An exchange without a rank is above all others.
abbrev pub level_of : ℕ → Option ℕ → Option ℕ → ℕ
level_of limit None None = 0
level_of limit None (Some n) = n
level_of limit (Some o) None = (2 * limit + 3) - o
level_of limit (Some o) (Some n) = if nat_le n o then n else ((2 * limit + 3) - o)

-- that of the list of an exchange for a code
abbrev pub level_at : (before after : Ranks) → (limit x c : ℕ) → ℕ
level_at before after limit x c = level_of limit (before c x) (after c x)

-- The list is switched at a front: its level lies below it.
abbrev pub is_switched : (before after : Ranks) → (limit front x c : ℕ) → Bool
is_switched before after limit front x c = nat_lt (level_at before after limit x c) front

-- the level of a bar: the first one for those of the new plan, and the last one for all others
abbrev pub bar_level : ℕ → Bool → ℕ
bar_level limit true = 0
bar_level limit false = 2 * limit + 3

-- the bar of an exchange for a code, or that there is none, is switched at a front
abbrev pub is_bar_switched : Plan → (limit front x c : ℕ) → Bool
is_bar_switched new limit front x c = nat_lt (bar_level limit (is_barred new x c)) front
