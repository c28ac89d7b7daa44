-- The list of findings of a change: which of several walks is in one is open, and all else is
-- not.
use Rattle.std.specs.Prelude.{◌≡◌, ℕ, zero, suc, ◌<◌, List, [], ◌++◌, length}
use Rattle.tx_plan.specs.Plan.{Plan}
use Rattle.tx_plan.specs.Certified.{Ranks}
use Rattle.tx_plan.specs.Ambiguous.{ambiguous_of}
use Rattle.tx_rank.specs.declared.finding.Finding.{Finding}
use Rattle.tx_rank.specs.Findings.{AreFindingsOfCode, pair_findings}
use Rattle.tx_rank.specs.Heights.{RanksByHeight}
use Rattle.tx_change.specs.ChangeNets.{change_net}

module _ {A : Type 0} where
  -- the findings of the codes before c, in order of the codes
  abbrev pub AreChangeFindingsBelow : (old new : Plan)
      → (limit spare c : ℕ) → List (Finding A) → Type 0
  AreChangeFindingsBelow old new limit spare zero findings = findings ≡ []
  AreChangeFindingsBelow old new limit spare (suc c) findings =
      (front : List (Finding A)) × (last : List (Finding A)) × (findings ≡ front ++ last)
      × AreChangeFindingsBelow old new limit spare c front
      × AreFindingsOfCode (change_net old new c) c limit spare last

  -- the findings of a change: the ambiguous pair, and then those of each code
  pub record AreChangeFindings (old new : Plan)
      (limit spare : ℕ) (findings : List (Finding A)) : Type 0 where
    pub rest : List (Finding A)
    pub joined : findings ≡ pair_findings (ambiguous_of old.codes) ++ rest
    pub codes : AreChangeFindingsBelow old new limit spare (length old.codes) rest

-- the ranks for each code are the heights in the network of the change
abbrev pub AreChangeHeights : (old new : Plan) → Ranks → Type 0
AreChangeHeights old new ranks =
    (c : ℕ) → c < length old.codes → RanksByHeight (change_net old new c) (ranks c)
