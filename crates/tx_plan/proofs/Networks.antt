-- Two plans of one network.
use Rattle.tx_plan.proofs.Common.{◌≡◌, ℕ, not, ◌&&◌, sym, ◌∙◌, Plan, home_of, other_end, rerouted, SameNetwork}
use Rattle.tx_plan.specs.Routes.{is_barred, is_origin, is_origin_for}

pub same_back : (p q : Plan) → SameNetwork p q → SameNetwork q p
same_back p q s = record { exchanges = sym s.exchanges; codes = sym s.codes; ranges = sym s.ranges; groups = sym s.groups }

pub same_along : (p q r : Plan) → SameNetwork p q → SameNetwork q r → SameNetwork p r
same_along p q r s t = record { exchanges = s.exchanges ∙ t.exchanges; codes = s.codes ∙ t.codes; ranges = s.ranges ∙ t.ranges; groups = s.groups ∙ t.groups }

-- each plan of a network is any other one of it with other routes and bars
pub rerouted-is : (p q : Plan) → SameNetwork p q → rerouted p q.routes q.bars ≡ q
rerouted-is p q s = λ i. record { exchanges = s.exchanges i; codes = s.codes i; ranges = s.ranges i; groups = s.groups i; routes = q.routes; bars = q.bars }

module _ (p q : Plan) (same : SameNetwork p q) where
  pub homes_same : (c : ℕ) → home_of q c ≡ home_of p c
  homes_same c = λ i. home_of (record p { codes = sym same.codes i }) c

  pub ends_same : (g x : ℕ) → other_end q g x ≡ other_end p g x
  ends_same g x = λ i. other_end (record p { groups = sym same.groups i }) g x

  pub origins_same : (x : ℕ) → is_origin q x ≡ is_origin p x
  origins_same x = λ i. is_origin (record p { codes = sym same.codes i; ranges = sym same.ranges i }) x

  -- where it is barred alike
  pub origin_as : (x c : ℕ) → is_barred q x c ≡ is_barred p x c → is_origin_for q x c ≡ is_origin_for p x c
  origin_as x c e = λ i. origins_same x i && not (e i)
