-- The walks of calls for one code, and what may be wrong with one.
use Rattle.std.specs.Prelude.{◌≡◌, ◌≢◌, ℕ, ◌+◌, ◌<◌, Bool, true, List, [], ◌∷◌, length, Option, Some}
use Rattle.tx_plan.specs.Plan.{Plan, home_of}
use Rattle.tx_plan.specs.Rules.{EachPair}
use Rattle.tx_plan.specs.Routes.{route_list, is_origin_for}
use Rattle.tx_plan.specs.Circuits.{other_end}
use Rattle.tx_plan.specs.Among.{Among}

-- The network as calls for one code see it: how many exchanges there are, the home of the code, the
-- groups that each exchange may try, how many it tries at the least, where a group leads from an
-- exchange, and where calls may start.
pub record Net : Type 0 where
  pub exchanges : ℕ
  pub home : ℕ
  pub list : ℕ → List ℕ
  pub fewest : ℕ → ℕ
  pub far : ℕ → ℕ → Option ℕ
  pub is_origin : ℕ → Bool

-- the network of a plan for the code c
abbrev pub net_of : Plan → ℕ → Net
net_of p c = record {
  exchanges = length p.exchanges;
  home = home_of p c;
  list = λ x. route_list p x c;
  fewest = λ x. length (route_list p x c);
  far = λ g x. other_end p g x;
  is_origin = λ x. is_origin_for p x c;
}

-- where a walk starts, and its steps, each by a group to an exchange
pub record Walk : Type 0 where
  pub start : ℕ
  pub steps : List (ℕ × ℕ)

-- the steps lead on from x, each by a group in the list of the exchange before it, which is not the
-- home
abbrev pub Goes : Net → ℕ → List (ℕ × ℕ) → Type 0
Goes n x [] = Unit {0}
Goes n x (s ∷ steps) = (x ≢ n.home) × Among s.0 (n.list x)
    × (n.far s.0 x ≡ Some s.1) × Goes n s.1 steps

-- the last exchange
abbrev pub end_of : ℕ → List (ℕ × ℕ) → ℕ
end_of x [] = x
end_of x (s ∷ steps) = end_of s.1 steps

-- all exchanges, in order
abbrev pub passed : ℕ → List (ℕ × ℕ) → List ℕ
passed x [] = x ∷ []
passed x (s ∷ steps) = x ∷ passed s.1 steps

-- all exchanges but the last
abbrev pub before_end : ℕ → List (ℕ × ℕ) → List ℕ
before_end x [] = []
before_end x (s ∷ steps) = x ∷ before_end s.1 steps

-- no two of them are the same
abbrev pub AllDiffer : List ℕ → Type 0
AllDiffer = EachPair (λ x y. x ≢ y)

-- A walk: it begins where calls may start, and goes by the lists.
pub record IsWalk (n : Net) (x : ℕ) (steps : List (ℕ × ℕ)) : Type 0 where
  pub origin : n.is_origin x ≡ true
  pub goes : Goes n x steps

-- LOOP: the last exchange occurs earlier, and nothing else repeats.
pub record IsLoop (n : Net) (x : ℕ) (steps : List (ℕ × ℕ)) : Type 0 where
  pub walk : IsWalk n x steps
  pub again : Among (end_of x steps) (before_end x steps)
  pub once : AllDiffer (before_end x steps)

-- SHORT: nothing repeats, and the last exchange is not the home and may list fewer than spare + 1
-- groups.
pub record IsShort (n : Net) (spare : ℕ) (x : ℕ) (steps : List (ℕ × ℕ)) : Type 0 where
  pub walk : IsWalk n x steps
  pub once : AllDiffer (passed x steps)
  pub away : end_of x steps ≢ n.home
  pub few : n.fewest (end_of x steps) < spare + 1

-- LONG: nothing repeats, there are limit + 1 steps, and the last exchange is not the home.
pub record IsLong (n : Net) (limit : ℕ) (x : ℕ) (steps : List (ℕ × ℕ)) : Type 0 where
  pub walk : IsWalk n x steps
  pub once : AllDiffer (passed x steps)
  pub away : end_of x steps ≢ n.home
  pub long : length steps ≡ limit + 1
