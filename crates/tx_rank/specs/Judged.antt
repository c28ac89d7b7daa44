-- What the ranking of one code adds to the findings.
use Rattle.std.specs.Prelude.{◌≡◌, ℕ, Bool, List, [], ◌++◌, length, Option, Some, slice_get}
use Rattle.tx_plan.specs.Plan.{Plan}
use Rattle.tx_plan.specs.Routes.{is_origin}
use Rattle.tx_rank.specs.declared.finding.Finding.{Finding}
use Rattle.tx_rank.specs.Walks.{Net}
use Rattle.tx_rank.specs.Heights.{RanksByHeight}
use Rattle.tx_rank.specs.Findings.{AreFindingsOfCode}
use Rattle.tx_rank.specs.Nets.{Certifies}

-- each exchange has whether calls may start there
pub record AreOrigins (p : Plan) (origins : List Bool) : Type 0 where
  pub long : length origins ≡ length p.exchanges
  pub each : (x : ℕ) (b : Bool) → slice_get origins x ≡ Some b → b ≡ is_origin p x

module _ {A : Type 0} where
  -- the findings of a code were added; where there are none, its ranks are heights and certify it
  pub record IsJudged (n : Net) (code limit spare : ℕ) (old new : List (Finding A))
      (ranks : ℕ → Option ℕ) : Type 0 where
    pub mine : List (Finding A)
    pub added : new ≡ old ++ mine
    pub listed : AreFindingsOfCode n code limit spare mine
    pub heights : mine ≡ [] → RanksByHeight n ranks
    pub certified : mine ≡ [] → Certifies n ranks limit spare
