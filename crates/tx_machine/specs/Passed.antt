-- The exchanges that a call passes (ITU-T F.68 for transits).
use Rattle.std.specs.Prelude.{◌≡◌, ℕ, ◌<◌, Bool, true, false, not, ◌||◌, ◌==◌, List, [], ◌∷◌, map, filter, Option, Some, None}
use Rattle.tx_plan.specs.Plan.{Plan, home_of}
use Rattle.tx_plan.specs.Codes.{code_of}
use Rattle.tx_plan.specs.Circuits.{is_circuit, other_end}
use Rattle.tx_machine.specs.declared.open_call.Hop.{Hop}
use Rattle.tx_machine.specs.Call.{Call, start_of}

-- from the exchange x on, the circuit of each hop is one of the plan, and joins the exchange before
-- it to the one after it
abbrev pub Joins : Plan → ℕ → List Hop → Type 0
Joins p x [] = Unit {0}
Joins p x (h ∷ hops) = (is_circuit p h.circuit ≡ true)
    × (other_end p h.circuit.group x ≡ Some h.far) × Joins p h.far hops

-- the exchange where a call starts, and those that its hops lead to
abbrev pub passed : Plan → Call → List ℕ
passed p c = start_of p c ∷ map (λ h. h.far) c.hops

-- the exchange is the home of the code, if there is one
abbrev pub is_home_of : Plan → Option ℕ → ℕ → Bool
is_home_of p None x = false
is_home_of p (Some code) x = home_of p code == x

-- neither the exchange where the call starts nor the home of its code
abbrev pub is_transit : Plan → ℕ → Option ℕ → ℕ → Bool
is_transit p start code x = not ((x == start) || is_home_of p code x)

-- the exchanges that a call passes other than where it starts and where its code is at home
abbrev pub transits : Plan → Call → List ℕ
transits p c = filter (is_transit p (start_of p c) (code_of p c.keyed)) (passed p c)

-- both exchanges are ranked, and from x to y the rank falls
pub record IsLower (rank : ℕ → Option ℕ) (x y : ℕ) : Type 0 where
  pub high : ℕ
  pub low : ℕ
  pub from : rank x ≡ Some high
  pub to : rank y ≡ Some low
  pub less : low < high

-- from the exchange x on the rank falls along each hop
abbrev pub Falls : (ℕ → Option ℕ) → ℕ → List Hop → Type 0
Falls rank x [] = Unit {0}
Falls rank x (h ∷ hops) = IsLower rank x h.far × Falls rank h.far hops
