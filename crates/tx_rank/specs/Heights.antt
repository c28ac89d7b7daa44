-- How far exchanges are above the home of a code.
use Rattle.std.specs.Prelude.{◌≡◌, ◌≢◌, ℕ, ◌<◌, ◌≤◌, List, length, Option, Some}
use Rattle.tx_plan.specs.Plan.{Plan}
use Rattle.tx_plan.specs.Certified.{Ranks}
use Rattle.tx_rank.specs.Walks.{Net, net_of, Goes, end_of, IsWalk}

-- a walk ends at x
pub record IsReached (n : Net) (x : ℕ) : Type 0 where
  pub start : ℕ
  pub steps : List (ℕ × ℕ)
  pub walk : IsWalk n start steps
  pub ends : end_of start steps ≡ x

-- the longest way from x to the home has h steps
pub record IsHeight (n : Net) (x h : ℕ) : Type 0 where
  pub steps : List (ℕ × ℕ)
  pub goes : Goes n x steps
  pub ends : end_of x steps ≡ n.home
  pub count : length steps ≡ h
  pub longest : (ways : List (ℕ × ℕ)) → Goes n x ways → end_of x ways ≡ n.home → length ways ≤ h

-- the home and each exchange of a walk are ranked by their heights, and nothing else is ranked
pub record RanksByHeight (n : Net) (ranks : ℕ → Option ℕ) : Type 0 where
  pub home : ranks n.home ≡ Some 0
  pub reached : (x : ℕ) → IsReached n x → (r : ℕ) × (ranks x ≡ Some r)
  pub ranked : (x r : ℕ) → ranks x ≡ Some r → x ≢ n.home → IsReached n x
  pub heights : (x r : ℕ) → ranks x ≡ Some r → IsHeight n x r

-- for each code of a plan
abbrev pub AreHeights : Plan → Ranks → Type 0
AreHeights p ranks = (c : ℕ) → c < length p.codes → RanksByHeight (net_of p c) (ranks c)
