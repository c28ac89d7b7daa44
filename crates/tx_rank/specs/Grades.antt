-- The grade of a plan and of a code: with which limits and spare numbers some ranks certify it.
use Rattle.std.specs.Prelude.{◌≡◌, ◌≢◌, ◌↔◌, ℕ, ◌+◌, ◌<◌, ◌≤◌, List, length, Option, Some, None, slice_get}
use Rattle.tx_plan.specs.Plan.{Plan}
use Rattle.tx_plan.specs.Certified.{Ranks, IsCertified}
use Rattle.tx_rank.specs.declared.bounds.Bounds.{Bounds}
use Rattle.tx_rank.specs.declared.finding.Finding.{Finding}
use Rattle.tx_rank.specs.Walks.{Net, net_of}
use Rattle.tx_rank.specs.Nets.{Certifies}
use Rattle.tx_rank.specs.Heights.{RanksByHeight}
use Rattle.tx_rank.specs.Findings.{IsTrueOf, AreFindings}

-- some ranks certify the plan
abbrev pub CanBeCertified : Plan → (limit spare : ℕ) → Type 0
CanBeCertified p limit spare = (ranks : Ranks) × IsCertified p ranks limit spare

-- some ranks certify this code of it
abbrev pub CanBeCertifiedFor : Plan → (code limit spare : ℕ) → Type 0
CanBeCertifiedFor p code limit spare = (ranks : ℕ → Option ℕ)
    × Certifies (net_of p code) ranks limit spare

-- no finding is true of the plan
abbrev pub NothingIsWrong : (A : Type 0) → Plan → (limit spare : ℕ) → Type 0
NothingIsWrong A p limit spare = (f : Finding A) → IsTrueOf p limit spare f → ⊥

-- Bounds: of the spare numbers up to 15, it holds exactly with a limit that is no smaller and a
-- spare number that is no greater.
pub record AreBounds (Holds : (limit spare : ℕ) → Type 0) (b : Bounds) : Type 0 where
  pub few : b.spare ≤ 15
  pub exactly : (limit spare : ℕ) → spare ≤ 15
      → Holds limit spare ↔ ((b.limit ≤ limit) × (spare ≤ b.spare))

-- A grade: the bounds with which it holds; or none, where it holds with no limit and no spare
-- number.
abbrev pub IsGrade : ((limit spare : ℕ) → Type 0) → Option Bounds → Type 0
IsGrade Holds (Some b) = AreBounds Holds b
IsGrade Holds None = (limit spare : ℕ) → Holds limit spare → ⊥

-- each code with its own grade, in order
pub record AreCodeGrades (p : Plan) (codes : List (ℕ × Option Bounds)) : Type 0 where
  pub long : length codes ≡ length p.codes
  pub each : (c : ℕ) (q : ℕ × Option Bounds) → slice_get codes c ≡ Some q
      → (q.0 ≡ c) × IsGrade (CanBeCertifiedFor p c) q.1

-- the ranks of each code that has a grade are its heights
abbrev pub AreRanksOfGrades : Plan → Ranks → List (ℕ × Option Bounds) → Type 0
AreRanksOfGrades p ranks codes = (c : ℕ) (b : Bounds)
    → slice_get codes c ≡ Some (c, Some b) → RanksByHeight (net_of p c) (ranks c)

-- Without a grade: the findings without a spare group, whatever the limit, if it is no smaller than
-- the number of exchanges and so no walk is too long
abbrev pub AreUnmended : {A : Type 0} → Plan → List (Finding A) → Type 0
AreUnmended p findings = (limit : ℕ) → length p.exchanges ≤ limit → AreFindings p limit 0 findings

-- what a ranked exchange other than the home asks for: its rank is at most limit + 1, and its list
-- has more groups than spare
abbrev pub Suits : Net → (ranks : ℕ → Option ℕ) → (x limit spare : ℕ) → Type 0
Suits n ranks x limit spare = (r : ℕ) → ranks x ≡ Some r
    → x ≢ n.home → (r ≤ limit + 1) × (spare < n.fewest x)
