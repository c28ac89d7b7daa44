-- Two plans of one network, and the plans that may be in force while one is changed into the other.
use Rattle.std.specs.Prelude.{◌≡◌, ◌⊎◌, ℕ}
use Rattle.tx_plan.specs.Plan.{Plan}
use Rattle.tx_plan.specs.Rules.{IsPlan}
use Rattle.tx_plan.specs.Routes.{route_list, is_barred}
use Rattle.tx_plan.specs.Certified.{Ranks, IsCertified}

-- the same exchanges, codes with their homes, ranges and groups, in the same order: two plans of
-- one network differ at most in routes and bars
pub record SameNetwork (p q : Plan) : Type 0 where
  pub exchanges : p.exchanges ≡ q.exchanges
  pub codes : p.codes ≡ q.codes
  pub ranges : p.ranges ≡ q.ranges
  pub groups : p.groups ≡ q.groups

-- it is one of two
abbrev pub IsEither : {A : Type 0} → A → A → A → Type 0
IsEither z x y = (z ≡ x) ⊎ (z ≡ y)

-- A mixture: a plan of the network in which each exchange has for each code the list of the old
-- plan or that of the new one, and is barred for it as in the old plan or as in the new one.
pub record IsMixture (old new m : Plan) : Type 0 where
  pub rules : IsPlan m
  pub network : SameNetwork old m
  pub lists : (x c : ℕ) → IsEither (route_list m x c) (route_list old x c) (route_list new x c)
  pub bars : (x c : ℕ) → IsEither (is_barred m x c) (is_barred old x c) (is_barred new x c)

-- it holds of each mixture
abbrev pub EachMixture : (old new : Plan) → (Plan → Type 0) → Type 0
EachMixture old new Holds = (m : Plan) → IsMixture old new m → Holds m

-- Common ranks: the same ranks certify both plans
pub record AreCommon (old new : Plan) (ranks : Ranks) (limit spare : ℕ) : Type 0 where
  pub before : IsCertified old ranks limit spare
  pub after : IsCertified new ranks limit spare
