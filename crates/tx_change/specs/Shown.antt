-- The mixture that a finding shows.
use Rattle.std.specs.Prelude.{ℕ, ◌+◌, Bool, false, not, ◌&&◌, ◌==◌, nat_le, if◌then◌else◌, List, [], ◌∷◌, Option, Some, None, length}
use Rattle.std.specs.List.{list_any}
use Rattle.tx_plan.specs.Plan.{Plan}
use Rattle.tx_plan.specs.Routes.{route_list, is_origin_for}
use Rattle.tx_plan.specs.Mixtures.{IsMixture}
use Rattle.tx_plan.specs.Mixed.{mixed}
use Rattle.tx_rank.specs.Walks.{Walk}
use Rattle.tx_rank.specs.declared.finding.Finding.{Finding}
use Rattle.tx_rank.specs.declared.finding.Finding.TheVariants.{Ambiguous, Loop, Short, Long}
use Rattle.tx_rank.specs.Findings.{IsTrueOf}

-- the group is in the list of the exchange for the code
abbrev pub is_listed : Plan → (c x g : ℕ) → Bool
is_listed p c x g = list_any (λ h. h == g) (route_list p x c)

-- A walk from x takes the new list at an exchange y where the old one does not have the group by
-- which the walk goes on; at its end, where the test says so; elsewhere it takes none.
abbrev pub takes_new : Plan → ℕ → (ℕ → Bool) → ℕ → List (ℕ × ℕ) → ℕ → Bool
takes_new old c at_end x [] y = (x == y) && at_end x
takes_new old c at_end x (s ∷ steps) y =
    if x == y then not (is_listed old c x s.0) else takes_new old c at_end s.1 steps y

-- it takes the new bar, or that there is none, where it starts, if calls may not start there by the
-- old plan
abbrev pub bars_new : Plan → ℕ → ℕ → ℕ → Bool
bars_new old c x y = (x == y) && not (is_origin_for old x c)

-- the old list is long enough, so that it is the new one that is short
abbrev pub is_long_before : Plan → (c spare x : ℕ) → Bool
is_long_before old c spare x = nat_le (spare + 1) (length (route_list old x c))

-- the test at the end of a walk, where a list is to be short, or none is
abbrev pub at_end_of : Plan → ℕ → Option ℕ → ℕ → Bool
at_end_of old c None x = false
at_end_of old c (Some spare) x = is_long_before old c spare x

-- the exchanges of which a walk takes the new list
abbrev pub listed_by : Plan → ℕ → Option ℕ → Walk → ℕ → Bool
listed_by old c spare w = takes_new old c (at_end_of old c spare) w.start w.steps

-- those of which it takes the new bar
abbrev pub barred_by : Plan → ℕ → Walk → ℕ → Bool
barred_by old c w = bars_new old c w.start

-- the old plan with the new lists and the new bar that a walk takes
abbrev pub mixed_by : (old new : Plan) → ℕ → Option ℕ → Walk → Plan
mixed_by old new c spare w = mixed old new c (listed_by old c spare w) (barred_by old c w)

-- those of the walk of a finding
abbrev pub shown_by : {A : Type 0} → (old new : Plan) → (spare : ℕ) → Finding A → Plan
shown_by old new spare (Ambiguous a b) = old
shown_by old new spare (Loop c w) = mixed_by old new c None w
shown_by old new spare (Short c w) = mixed_by old new c (Some spare) w
shown_by old new spare (Long c w) = mixed_by old new c None w

-- A finding shows a mixture: it is true of it.
abbrev pub IsShown : {A : Type 0} → (old new : Plan) → (limit spare : ℕ) → Finding A → Type 0
IsShown old new limit spare f =
    IsMixture old new (shown_by old new spare f) × IsTrueOf (shown_by old new spare f) limit spare f
