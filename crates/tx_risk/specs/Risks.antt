-- Risks: sets of groups that may go at once, and from where a code cannot be reached then.
use Rattle.std.specs.Prelude.{◌≡◌, ◌≢◌, ℕ, Bool, false, not, List, [], filter, length, is_some, Some}
use Rattle.tx_plan.specs.Plan.{Plan}
use Rattle.tx_plan.specs.Certified.{Ranks}
use Rattle.tx_plan.specs.Circuits.{other_end}
use Rattle.tx_plan.specs.Routes.{route_list}
use Rattle.tx_plan.specs.Among.{Among}
use Rattle.tx_rank.specs.Walks.{Net, net_of, AllDiffer, Goes, end_of, passed}

-- which groups go
abbrev pub Risk : Type 0
Risk = ℕ → Bool

-- the groups of which an exchange is an end
abbrev pub groups_of : Plan → ℕ → Risk
groups_of p x = λ g. is_some (other_end p g x)

-- what is left of a list
abbrev pub left_of : Risk → List ℕ → List ℕ
left_of risk gs = filter (λ g. not (risk g)) gs

-- a network without the groups of a risk
abbrev pub without : Risk → Net → Net
without risk n = record {
  exchanges = n.exchanges;
  home = n.home;
  list = λ x. left_of risk (n.list x);
  fewest = λ x. length (left_of risk (n.list x));
  far = n.far;
  is_origin = n.is_origin;
}

-- the network of a plan for one code, without them
abbrev pub net_without : Plan → Risk → ℕ → Net
net_without p risk code = without risk (net_of p code)

-- A dead end: the steps lead from x by the lists to an exchange other than the home, and nothing
-- is in its list.
pub record IsDeadEnd (n : Net) (x : ℕ) (steps : List (ℕ × ℕ)) : Type 0 where
  pub goes : Goes n x steps
  pub away : end_of x steps ≢ n.home
  pub none : n.list (end_of x steps) ≡ []

-- CUT: a dead end, and nothing repeats on the way to it.
pub record IsCut (n : Net) (x : ℕ) (steps : List (ℕ × ℕ)) : Type 0 where
  pub dead : IsDeadEnd n x steps
  pub once : AllDiffer (passed x steps)

-- no way from x leads to a dead end
abbrev pub IsUncut : Plan → Risk → (code x : ℕ) → Type 0
IsUncut p risk code x = (steps : List (ℕ × ℕ)) → IsCut (net_without p risk code) x steps → ⊥

-- each ranked exchange other than the home lists a group that does not go
abbrev pub LeavesSome : Plan → Ranks → Risk → ℕ → Type 0
LeavesSome p ranks risk code =
    (x r : ℕ) → ranks code x ≡ Some r → x ≢ (net_of p code).home
    → (g : ℕ) × Among g (route_list p x code) × (risk g ≡ false)

-- some way from x leads home
pub record LeadsHome (n : Net) (x : ℕ) : Type 0 where
  pub steps : List (ℕ × ℕ)
  pub goes : Goes n x steps
  pub home : end_of x steps ≡ n.home

-- Served: each way from x, by the groups that are left, can go on to the home.
abbrev pub IsServed : Plan → Risk → (code x : ℕ) → Type 0
IsServed p risk code x =
    (steps : List (ℕ × ℕ)) → Goes (net_without p risk code) x steps
    → LeadsHome (net_without p risk code) (end_of x steps)
