-- An order of switching: plans that lead from an old plan to a new one, stage by stage.
use Rattle.std.specs.Prelude.{◌≡◌, ◌≢◌, ℕ, ◌+◌, ◌<◌, ◌≤◌, length}
use Rattle.tx_plan.specs.Plan.{Plan}
use Rattle.tx_plan.specs.Routes.{route_list, is_barred}
use Rattle.tx_plan.specs.Certified.{Ranks}
use Rattle.tx_plan.specs.Mixtures.{IsMixture, AreCommon}
use Rattle.tx_rank.specs.Grades.{CanBeCertified}

-- both plans have the same lists and the same bars for a code
pub record AreAlikeFor (c : ℕ) (p q : Plan) : Type 0 where
  pub lists : (x : ℕ) → route_list p x c ≡ route_list q x c
  pub bars : (x : ℕ) → is_barred p x c ≡ is_barred q x c

-- they have for each code
abbrev pub AreAlike : (p q : Plan) → Type 0
AreAlike p q = (c : ℕ) → c < length p.codes → AreAlikeFor c p q

-- the list of an exchange for a code is the old one up to some stage, and the new one after it
pub record IsListSwitched (old new : Plan) (plans : ℕ → Plan) (stages x c : ℕ) : Type 0 where
  pub stage : ℕ
  pub within : stage < stages
  pub before : (i : ℕ) → i ≤ stage → route_list (plans i) x c ≡ route_list old x c
  pub after : (i : ℕ) → stage < i → route_list (plans i) x c ≡ route_list new x c

-- and whether it is barred for the code
pub record IsBarSwitched (old new : Plan) (plans : ℕ → Plan) (stages x c : ℕ) : Type 0 where
  pub stage : ℕ
  pub within : stage < stages
  pub before : (i : ℕ) → i ≤ stage → is_barred (plans i) x c ≡ is_barred old x c
  pub after : (i : ℕ) → stage < i → is_barred (plans i) x c ≡ is_barred new x c

-- An order in some stages, by the plan before each of them. The first plan is the old one, and the
-- last the new one, or there is no stage and the two are alike. Each plan is a mixture that some
-- ranks certify. Each list and each bar that differs is switched in one stage. The same ranks
-- certify the plan before a stage and the plan after it, so that what it switches may be switched
-- in any order, with calls up.
pub record IsOrder (old new : Plan) (plans : ℕ → Plan) (stages limit spare : ℕ) : Type 0 where
  pub first : plans 0 ≡ old
  pub last : 0 < stages → plans stages ≡ new
  pub none : stages ≡ 0 → AreAlike old new
  pub mixtures : (i : ℕ) → IsMixture old new (plans i)
  pub certified : (i : ℕ) → CanBeCertified (plans i) limit spare
  pub lists : (x c : ℕ) → c < length old.codes → route_list old x c ≢ route_list new x c
      → IsListSwitched old new plans stages x c
  pub bars : (x c : ℕ) → c < length old.codes → is_barred old x c ≢ is_barred new x c
      → IsBarSwitched old new plans stages x c
  pub safe : (i : ℕ) → i < stages
      → (ranks : Ranks) × AreCommon (plans i) (plans (i + 1)) ranks limit spare

-- there is an order
abbrev pub HasOrder : (old new : Plan) → (limit spare : ℕ) → Type 0
HasOrder old new limit spare = (plans : ℕ → Plan) × (stages : ℕ)
    × IsOrder old new plans stages limit spare

-- some ranks certify the old plan, and some the new one
abbrev pub CanBothBeCertified : (old new : Plan) → (limit spare : ℕ) → Type 0
CanBothBeCertified old new limit spare = CanBeCertified old limit spare
    × CanBeCertified new limit spare
