-- Which calls can pass an exchange or a group.
use Rattle.std.specs.Prelude.{◌≡◌, ℕ, Bool, not, ◌==◌, ◌&&◌, if◌then◌else◌, List, [], ◌∷◌, length, map}
use Rattle.std.specs.List.{flat_map, list_any, range_with_len}
use Rattle.tx_plan.specs.declared.ids.Pair.{Pair}
use Rattle.tx_plan.specs.Plan.{Plan, home_of}
use Rattle.tx_plan.specs.Routes.{route_list, is_origin_for}
use Rattle.tx_plan.specs.Among.{Among}
use Rattle.tx_rank.specs.Walks.{net_of, IsWalk, end_of}
use Rattle.tx_trace.specs.declared.through.Through.{Through}
use Rattle.tx_trace.specs.declared.through.Through.TheVariants.{Exchange, Group}
use Rattle.tx_trace.specs.Ways.{is_in, all_met}

-- a call for c that has come to y is at the exchange, or may go on by the group
abbrev pub is_there : Plan → (c : ℕ) → Through → (y : ℕ) → Bool
is_there p c (Exchange x) y = y == x
is_there p c (Group g) y = not (y == home_of p c) && is_in g (route_list p y c)

-- it may come there from x
abbrev pub may_pass : Plan → Through → (c x : ℕ) → Bool
may_pass p t c x = list_any (is_there p c t) (all_met p c x)

-- x and c, if such calls may start at x
abbrev pub passing : Plan → Through → (c x : ℕ) → List Pair
passing p t c x =
    if is_origin_for p x c && may_pass p t c x then record { exchange = x; code = c } ∷ [] else []

-- from which exchanges calls for c may pass
abbrev pub passing_for : Plan → Through → (c : ℕ) → List Pair
passing_for p t c = flat_map (passing p t c) (range_with_len 0 (length p.exchanges))

-- Where calls start that may pass, and their codes: by codes, and then by exchanges
abbrev pub calls_through : Plan → Through → List Pair
calls_through p t = flat_map (passing_for p t) (range_with_len 0 (length p.codes))

-- the steps end at the exchange, or one of them is by the group
abbrev pub Pass : Through → (x : ℕ) → List (ℕ × ℕ) → Type 0
Pass (Exchange y) x steps = end_of x steps ≡ y
Pass (Group g) x steps = Among g (map (λ s. s.0) steps)

-- A call for c that starts at x can pass: some walk by the lists does.
pub record CanPass (p : Plan) (t : Through) (c x : ℕ) : Type 0 where
  pub steps : List (ℕ × ℕ)
  pub walk : IsWalk (net_of p c) x steps
  pub pass : Pass t x steps
