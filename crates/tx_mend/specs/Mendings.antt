-- What the mending of a plan answers.
use Rattle.std.specs.Prelude.{◌≡◌, ℕ, List, Option}
use Rattle.tx_plan.specs.Plan.{Plan, Route}
use Rattle.tx_plan.specs.Ambiguous.{ambiguous_of}
use Rattle.tx_cert.specs.Certificate.{Certificate}
use Rattle.tx_check.specs.Confirmed.{IsConfirmed}
use Rattle.tx_mend.specs.declared.mending.Mending.{Mending}
use Rattle.tx_mend.specs.declared.mending.Mending.TheVariants.{Mended, NoRouting}
use Rattle.tx_mend.specs.Routings.{IsRouting, CanBeMended}
use Rattle.tx_mend.specs.declared.cause.Missing.{Missing}
use Rattle.tx_mend.specs.declared.cause.Unserved.{Unserved}
use Rattle.tx_mend.specs.Mended.{mended}
use Rattle.tx_mend.specs.Unserved.{unserved, missing}
use Rattle.tx_mend.specs.Laws.{KeepsSafeLists, ChangesLeast}

module _ {A : Type 0} where
  -- the plan was mended
  abbrev pub IsMended : Mending A → Type 0
  IsMended (Mended plan before cert) = Unit {0}
  IsMended (NoRouting plan unserved missing pair) = ⊥

  -- it holds of the plan, of the routes that it had and of its certificate, if it was mended
  abbrev pub OnMended : (Plan → List Route → Certificate → Type 0) → Mending A → Type 0
  OnMended Holds (Mended plan before cert) = Holds plan before cert
  OnMended Holds (NoRouting plan unserved missing pair) = Unit {0}

  -- it holds of the plan, of what cannot be served, of where groups are missing and of the
  -- ambiguous pair, if no routes of the network are certified
  abbrev pub OnNoRouting : (Plan → List Unserved → List Missing → Option (ℕ × ℕ) → Type 0)
      → Mending A → Type 0
  OnNoRouting Holds (Mended plan before cert) = Unit {0}
  OnNoRouting Holds (NoRouting plan unserved missing pair) =
      Holds plan unserved.items missing.items pair

-- YES: the mended plan, of the same network, with a certificate to which the checker says Yes
pub record IsMendedInto (p q : Plan) (routes : List Route) (cert : Certificate) (limit spare : ℕ)
    : Type 0 where
  pub routing : IsRouting p q
  pub mended : q ≡ mended p limit spare
  pub before : routes ≡ p.routes
  pub kept : KeepsSafeLists p q limit spare
  pub least : ChangesLeast p q limit spare
  pub confirmed : IsConfirmed q cert limit spare

-- NO: no routes of the network are certified by any ranks; what cannot be served and why, where
-- groups are missing, and the pair
pub record HasNoRouting (p q : Plan) (origins : List Unserved) (gaps : List Missing)
    (both : Option (ℕ × ℕ)) (limit spare : ℕ) : Type 0 where
  pub same : q ≡ p
  pub told : origins ≡ unserved p limit spare
  pub missing : gaps ≡ missing p limit spare
  pub pair : both ≡ ambiguous_of p.codes
  pub none : CanBeMended p limit spare → ⊥

-- YES with the mended plan, or NO with what cannot be served
abbrev pub IsRightMending : {A : Type 0} → Plan → (limit spare : ℕ) → Mending A → Type 0
IsRightMending p limit spare (Mended q before cert) = IsMendedInto p q before cert limit spare
IsRightMending p limit spare (NoRouting q unserved missing pair) =
    HasNoRouting p q unserved.items missing.items pair limit spare
