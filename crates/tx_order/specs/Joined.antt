-- Stages of one code, each as long as it is safe.
use Rattle.std.specs.Prelude.{ℕ, ◌+◌, ◌<◌, ◌≤◌, List, length, Option}
use Rattle.tx_rank.specs.Nets.{Certifies}
use Rattle.tx_change.specs.ChangeNets.{change_net}
use Rattle.tx_order.specs.Levels.{levels_of}
use Rattle.tx_order.specs.Orders.{AreAlikeFor}
use Rattle.tx_order.specs.Fronts.{front_of}
use Rattle.tx_order.specs.Transitions.{Transition, plan_front}

-- the same ranks certify the code at two fronts
abbrev pub IsSafeBetween : Transition → (c from to : ℕ) → Type 0
IsSafeBetween w c from to = (ranks : ℕ → Option ℕ)
    × Certifies (change_net (plan_front w from) (plan_front w to) c) ranks w.limit w.spare

-- no ranks certify the code at the one front and at any beyond the other
abbrev pub IsFurthest : Transition → (c from to : ℕ) → Type 0
IsFurthest w c from to =
    (more : ℕ) → to < more → more ≤ levels_of w.limit → IsSafeBetween w c from more → ⊥

-- Stages of a code, by the fronts at which they end: each switches something, the same ranks
-- certify the code before it and after it, and it is as long as it can be.
pub record AreStages (w : Transition) (c : ℕ) (ends : List ℕ) : Type 0 where
  pub within : (s : ℕ) → s ≤ length ends → front_of w.limit ends s ≤ levels_of w.limit
  pub rising : (s : ℕ) → s < length ends → front_of w.limit ends s < front_of w.limit ends (s + 1)
  pub safe : (s : ℕ) → s < length ends
      → IsSafeBetween w c (front_of w.limit ends s) (front_of w.limit ends (s + 1))
  pub furthest : (s : ℕ) → s < length ends
      → IsFurthest w c (front_of w.limit ends s) (front_of w.limit ends (s + 1))
  pub used : (s : ℕ) → s < length ends
      → AreAlikeFor c (plan_front w (front_of w.limit ends s))
      (plan_front w (front_of w.limit ends (s + 1))) → ⊥

-- after the last of them nothing is left to switch
pub record AreAllStages (w : Transition) (c : ℕ) (ends : List ℕ) : Type 0 where
  pub stages : AreStages w c ends
  pub done : AreAlikeFor c (plan_front w (front_of w.limit ends (length ends)))
      (plan_front w (levels_of w.limit))
