-- What may be wrong with a plan, and the list of findings.
use Rattle.std.specs.Prelude.{◌≡◌, ℕ, zero, suc, ◌<◌, List, [], ◌∷◌, ◌++◌, length, map, Option, Some, None}
use Rattle.tx_plan.specs.Plan.{Plan}
use Rattle.tx_plan.specs.Ambiguous.{ambiguous_of}
use Rattle.tx_plan.specs.Rules.{EachPair}
use Rattle.tx_plan.specs.Among.{Among}
use Rattle.tx_rank.specs.declared.finding.Finding.{Finding}
use Rattle.tx_rank.specs.declared.finding.Finding.TheVariants.{Ambiguous, Loop, Short, Long}
use Rattle.tx_rank.specs.Walks.{Net, Walk, net_of, end_of, IsLoop, IsShort, IsLong}

-- A finding is true: the pair is the least of a code and a longer code that begins with it, or the
-- walk is one for the code, with this wrong.
abbrev pub IsTrueOf : {A : Type 0} → Plan → ℕ → ℕ → Finding A → Type 0
IsTrueOf p limit spare (Ambiguous a b) = ambiguous_of p.codes ≡ Some (a, b)
IsTrueOf p limit spare (Loop c w) = (c < length p.codes) × IsLoop (net_of p c) w.start w.steps
IsTrueOf p limit spare (Short c w) = (c < length p.codes)
    × IsShort (net_of p c) spare w.start w.steps
IsTrueOf p limit spare (Long c w) = (c < length p.codes) × IsLong (net_of p c) limit w.start w.steps

-- The list of findings: which of several walks is in one is open, and all else is not.

-- the exchange where a walk ends
abbrev pub end_at : Walk → ℕ
end_at w = end_of w.start w.steps

-- one short walk to each exchange to which there is one, in order of the exchanges
pub record AreShorts (n : Net) (spare : ℕ) (walks : List Walk) : Type 0 where
  pub each : (w : Walk) → Among w walks → IsShort n spare w.start w.steps
  pub order : EachPair (λ x y. x < y) (map end_at walks)
  pub all : (x : ℕ) (steps : List (ℕ × ℕ)) → IsShort n spare x steps
      → Among (end_of x steps) (map end_at walks)

-- a long walk, if there is one
abbrev pub IsLongIfAny : Net → ℕ → Option Walk → Type 0
IsLongIfAny n limit None = (x : ℕ) (steps : List (ℕ × ℕ)) → IsLong n limit x steps → ⊥
IsLongIfAny n limit (Some w) = IsLong n limit w.start w.steps

module _ {A : Type 0} where
  -- the finding of a long walk, if there is one
  abbrev pub long_findings : ℕ → Option Walk → List (Finding A)
  long_findings code None = []
  long_findings code (Some w) = Long code w ∷ []

  -- the findings of one code: a loop if there is one, else the short walks and then a long walk
  pub data AreFindingsOfCode (n : Net) (code limit spare : ℕ)
      (findings : List (Finding A)) : Type 0 where
    looped : (w : Walk) → IsLoop n w.start w.steps
        → findings ≡ Loop code w ∷ [] → AreFindingsOfCode n code limit spare findings
    straight : ((x : ℕ) (steps : List (ℕ × ℕ)) → IsLoop n x steps → ⊥)
        → (shorts : List Walk) → AreShorts n spare shorts
        → (long : Option Walk) → IsLongIfAny n limit long
        → findings ≡ map (Short code) shorts ++ long_findings code long
        → AreFindingsOfCode n code limit spare findings

  -- the findings of the codes before c, in order of the codes
  abbrev pub AreFindingsBelow : Plan → ℕ → ℕ → ℕ → List (Finding A) → Type 0
  AreFindingsBelow p limit spare zero findings = findings ≡ []
  AreFindingsBelow p limit spare (suc c) findings = (front : List (Finding A))
      × (last : List (Finding A)) × (findings ≡ front ++ last)
      × AreFindingsBelow p limit spare c front × AreFindingsOfCode (net_of p c) c limit spare last

  -- the finding of the ambiguous pair, if there is one
  abbrev pub pair_findings : Option (ℕ × ℕ) → List (Finding A)
  pair_findings None = []
  pair_findings (Some q) = Ambiguous q.0 q.1 ∷ []

  -- the findings of a plan: the ambiguous pair, and then those of each code
  pub record AreFindings (p : Plan) (limit spare : ℕ) (findings : List (Finding A)) : Type 0 where
    pub rest : List (Finding A)
    pub joined : findings ≡ pair_findings (ambiguous_of p.codes) ++ rest
    pub codes : AreFindingsBelow p limit spare (length p.codes) rest
