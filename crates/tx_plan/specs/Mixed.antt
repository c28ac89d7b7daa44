-- A plan with other routes and bars, and the mixture that takes some lists and some bars of one
-- code from the new plan, and all else from the old one.
use Rattle.std.specs.Prelude.{ℕ, Bool, not, ◌&&◌, ◌==◌, List, ◌++◌, filter}
use Rattle.tx_plan.specs.declared.ids.Pair.{Pair}
use Rattle.tx_plan.specs.Plan.{Plan, Route}

-- the plan with these routes and bars in place of its own
abbrev pub rerouted : Plan → List Route → List Pair → Plan
rerouted p routes bars = record p { routes = routes; bars = bars }

-- a route of the code at one of the exchanges
abbrev pub is_route_there : ℕ → (ℕ → Bool) → Route → Bool
is_route_there c there r = (r.code == c) && there r.exchange

-- a bar of the code at one of the exchanges
abbrev pub is_bar_there : ℕ → (ℕ → Bool) → Pair → Bool
is_bar_there c there b = (b.code == c) && there b.exchange

-- of the first list all but those that pass, and then those of the second that do
abbrev pub replaced : {A : Type 0} → (A → Bool) → List A → List A → List A
replaced passes xs ys = filter (λ x. not (passes x)) xs ++ filter passes ys

-- for the code c, the new list at the exchanges of `listed` and the new bar at those of `barred`
abbrev pub mixed : (old new : Plan) → (c : ℕ) → (listed barred : ℕ → Bool) → Plan
mixed old new c listed barred =
    rerouted old (replaced (is_route_there c listed) old.routes new.routes)
    (replaced (is_bar_there c barred) old.bars new.bars)
