-- The parts of what the ranking of one code adds to the findings, and what is kept from code to
-- code.
use Rattle.std.specs.Prelude.{◌≡◌, ◌≢◌, ℕ, ◌+◌, ◌<◌, ◌≤◌, true, List, [], ◌++◌, length, map, Option, Some, None}
use Rattle.tx_plan.specs.Plan.{Plan}
use Rattle.tx_plan.specs.Ambiguous.{ambiguous_of}
use Rattle.tx_plan.specs.Rules.{EachPair}
use Rattle.tx_plan.specs.Among.{Among}
use Rattle.tx_cert.specs.Certificate.{Certificate, rank_at}
use Rattle.tx_rank.specs.declared.finding.Finding.{Finding}
use Rattle.tx_rank.specs.declared.finding.Finding.TheVariants.{Short}
use Rattle.tx_rank.specs.Walks.{Net, Walk, net_of, end_of, IsShort, IsLong}
use Rattle.tx_rank.specs.Heights.{RanksByHeight}
use Rattle.tx_rank.specs.Findings.{end_at, AreShorts, AreFindingsBelow, pair_findings}
use Rattle.tx_rank.specs.Nets.{Certifies}

-- a walk ends at x, which is not the home and may list no more than spare groups
pub record IsShortAt (n : Net) (ranks : ℕ → Option ℕ) (spare x : ℕ) : Type 0 where
  pub rank : ℕ
  pub ranked : ranks x ≡ Some rank
  pub away : x ≢ n.home
  pub few : n.fewest x ≤ spare

-- no origin is ranked above limit + 1
abbrev pub LowOrigins : Net → (ℕ → Option ℕ) → ℕ → Type 0
LowOrigins n ranks limit = (x r : ℕ) → n.is_origin x ≡ true → ranks x ≡ Some r → r ≤ limit + 1

-- a long walk, or no origin is ranked above limit + 1
abbrev pub IsLongFound : Net → (ℕ → Option ℕ) → ℕ → Option Walk → Type 0
IsLongFound n ranks limit None = LowOrigins n ranks limit
IsLongFound n ranks limit (Some w) = IsLong n limit w.start w.steps

-- a long walk, or x is no origin that is ranked above limit + 1
abbrev pub IsLongFrom : Net → (ℕ → Option ℕ) → ℕ → ℕ → Option Walk → Type 0
IsLongFrom n ranks limit x None = (r : ℕ) → n.is_origin x ≡ true → ranks x ≡ Some r → r ≤ limit + 1
IsLongFrom n ranks limit x (Some w) = IsLong n limit w.start w.steps

module _ {A : Type 0} where
  -- a short walk was added for each exchange to which there is one
  pub record AddsShorts (n : Net) (code spare : ℕ) (old new : List (Finding A)) : Type 0 where
    pub walks : List Walk
    pub added : new ≡ old ++ map (Short code) walks
    pub found : AreShorts n spare walks

  -- the same for the exchanges before index i
  pub record AddsBelow (n : Net) (code spare i : ℕ) (old new : List (Finding A)) : Type 0 where
    pub walks : List Walk
    pub added : new ≡ old ++ map (Short code) walks
    pub each : (w : Walk) → Among w walks → IsShort n spare w.start w.steps
    pub order : EachPair (λ x y. x < y) (map end_at walks)
    pub below : (y : ℕ) → Among y (map end_at walks) → y < i
    pub all : (x : ℕ) (steps : List (ℕ × ℕ)) → IsShort n spare x steps
        → end_of x steps < i → Among (end_of x steps) (map end_at walks)

  -- the codes before c were ranked
  pub record IsRankedBelow (p : Plan) (limit spare c : ℕ)
      (cert : Certificate) (findings : List (Finding A)) : Type 0 where
    pub rest : List (Finding A)
    pub joined : findings ≡ pair_findings (ambiguous_of p.codes) ++ rest
    pub listed : AreFindingsBelow p limit spare c rest
    pub heights : rest ≡ [] → (d : ℕ) → d < c → RanksByHeight (net_of p d) (rank_at cert d)
    pub certified : rest ≡ [] → (d : ℕ) → d < c
        → Certifies (net_of p d) (rank_at cert d) limit spare
    pub blank : (d x : ℕ) → c ≤ d → rank_at cert d x ≡ None
    pub codes : cert.codes ≡ length p.codes
    pub exchanges : cert.exchanges ≡ length p.exchanges
