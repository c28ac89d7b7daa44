-- Certified plans: ranks of exchanges that fall along each group of each route list.
use Rattle.std.specs.Prelude.{◌≡◌, ◌≢◌, ℕ, ◌+◌, ◌<◌, ◌≤◌, true, Option, Some, None, length, slice_get}
use Rattle.std.specs.List.{AllByRecursion}
use Rattle.tx_plan.specs.Plan.{Plan, Code, home_of}
use Rattle.tx_plan.specs.Codes.{is_prefix}
use Rattle.tx_plan.specs.Routes.{route_list, is_origin_for}
use Rattle.tx_plan.specs.Circuits.{other_end}

-- a rank for some pairs of a code and an exchange
abbrev pub Ranks : Type 0
Ranks = ℕ → ℕ → Option ℕ

-- an exchange is ranked below a number
abbrev pub IsBelow : Option ℕ → ℕ → Type 0
IsBelow None n = ⊥
IsBelow (Some m) n = m < n

-- a group leads to an exchange of smaller rank
pub record LeadsLower (p : Plan) (ranks : Ranks) (c x r g : ℕ) : Type 0 where
  pub to : ℕ
  pub leads : other_end p g x ≡ Some to
  pub lower : IsBelow (ranks c to) r

-- the list has more groups than spare, and each leads to an exchange of smaller rank
pub record LeadsDown (p : Plan) (ranks : Ranks) (spare c x r : ℕ) : Type 0 where
  pub enough : spare < length (route_list p x c)
  pub each : AllByRecursion (LeadsLower p ranks c x r) (route_list p x c)

-- No code begins another. For each code the home has rank 0, each origin for it has a rank, no rank
-- is above limit + 1, and each ranked exchange other than the home has a list of more groups than
-- spare, each leading to an exchange of smaller rank.
pub record IsCertified (p : Plan) (ranks : Ranks) (limit spare : ℕ) : Type 0 where
  pub no_prefix : (i j : ℕ) (c d : Code) → slice_get p.codes i ≡ Some c
      → slice_get p.codes j ≡ Some d → is_prefix c.figures d.figures ≡ true → c.figures ≡ d.figures
  pub homes : (c : ℕ) → c < length p.codes → ranks c (home_of p c) ≡ Some 0
  pub origins : (c x : ℕ) → c < length p.codes
      → is_origin_for p x c ≡ true → (r : ℕ) × (ranks c x ≡ Some r)
  pub low : (c x r : ℕ) → c < length p.codes → ranks c x ≡ Some r → r ≤ limit + 1
  pub lists : (c x r : ℕ) → c < length p.codes
      → ranks c x ≡ Some r → x ≢ home_of p c → LeadsDown p ranks spare c x r
