-- Plans of one network, and what routes can do for calls in it.
use Rattle.std.specs.Prelude.{◌≡◌, ◌≢◌, ℕ, ◌+◌, ◌≤◌, true, Some}
use Rattle.tx_plan.specs.Plan.{Plan, home_of}
use Rattle.tx_plan.specs.Rules.{IsPlan}
use Rattle.tx_plan.specs.Routes.{is_origin_for}
use Rattle.tx_plan.specs.Certified.{Ranks, IsCertified, LeadsDown}
use Rattle.tx_plan.specs.Mixed.{rerouted}

-- Routes of a network: a plan with the same exchanges, codes, ranges, groups and bars. Its routes
-- are open.
pub record IsRouting (p q : Plan) : Type 0 where
  pub plan : IsPlan q
  pub same : q ≡ rerouted p q.routes p.bars

-- These ranks fall along the lists for a code: all that a certificate says of the code, but that
-- each origin is ranked.
pub record IsFalling (p : Plan) (ranks : Ranks) (code limit spare : ℕ) : Type 0 where
  pub home : ranks code (home_of p code) ≡ Some 0
  pub low : (x r : ℕ) → ranks code x ≡ Some r → r ≤ limit + 1
  pub lists : (x r : ℕ) → ranks code x ≡ Some r → x ≢ home_of p code
      → LeadsDown p ranks spare code x r

-- An exchange can be served for a code: with some routes of the network, some ranks that fall along
-- them rank the exchange.
pub record CanBeServed (p : Plan) (code limit spare x : ℕ) : Type 0 where
  pub routing : Plan
  pub ranks : Ranks
  pub rank : ℕ
  pub same : IsRouting p routing
  pub falling : IsFalling routing ranks code limit spare
  pub ranked : ranks code x ≡ Some rank

-- the present routes for a code can be certified
pub record CanBeKept (p : Plan) (code limit spare : ℕ) : Type 0 where
  pub ranks : Ranks
  pub falling : IsFalling p ranks code limit spare
  pub origins : (x : ℕ) → is_origin_for p x code ≡ true → (r : ℕ) × (ranks code x ≡ Some r)

-- some routes of the network are certified by some ranks
pub record CanBeMended (p : Plan) (limit spare : ℕ) : Type 0 where
  pub routing : Plan
  pub ranks : Ranks
  pub same : IsRouting p routing
  pub certified : IsCertified routing ranks limit spare
