-- The routes and bars of one plan that are in a mixture.
use Rattle.std.specs.Prelude.{ℕ, Bool, true, false, not, ◌&&◌, ◌==◌, if◌then◌else◌, List, [], ◌∷◌, Option}
use Rattle.std.specs.List.{list_any}
use Rattle.std.specs.Option.{option_map_or}
use Rattle.tx_plan.specs.declared.ids.Pair.{Pair}
use Rattle.tx_plan.specs.Plan.{Route}

-- of the new plan what is taken, and of the old plan all else
abbrev pub keeps : Bool → Bool → Bool
keeps true taken = taken
keeps false taken = not taken

-- a route is kept
abbrev pub keeps_route : Bool → (ℕ → ℕ → Bool) → Route → Bool
keeps_route from_new taken r = keeps from_new (taken r.exchange r.code)

-- a bar is kept
abbrev pub keeps_bar : Bool → (ℕ → ℕ → Bool) → Pair → Bool
keeps_bar from_new taken b = keeps from_new (taken b.exchange b.code)

-- an entry alone, if it is kept
abbrev pub kept_alone : {A : Type 0} → (A → Bool) → Option A → List A
kept_alone test o = option_map_or (λ x. if test x then x ∷ [] else []) o []

-- a route of the same exchange and code
abbrev pub has_route_as : Route → List Route → Bool
has_route_as r routes = list_any (λ q. (q.exchange == r.exchange) && (q.code == r.code)) routes

-- a bar of the same exchange and code
abbrev pub has_bar_as : Pair → List Pair → Bool
has_bar_as b bars = list_any (λ q. (q.exchange == b.exchange) && (q.code == b.code)) bars
