-- A stage of an order that is asked for: the plan after it, and a certificate of it. Stage 0 is
-- what is done before the first one.
use Rattle.std.specs.Prelude.{◌≡◌, ℕ, ◌-◌, ◌≤◌, max, Option, Some}
use Rattle.tx_cert.specs.Certificate.{Certificate, IsCertificateOf, ranks_of}
use Rattle.tx_plan.specs.Mixtures.{AreCommon}
use Rattle.tx_order.specs.declared.judging.OrderVerdict.{OrderVerdict}
use Rattle.tx_order.specs.declared.judging.OrderVerdict.TheVariants.{Ordered}
use Rattle.tx_order.specs.Ordered.{Order, plan_before, stages_in}

-- an order has the stage of this number
abbrev pub IsStageOf : Order → ℕ → Type 0
IsStageOf o n = n ≤ stages_in o

-- A certificate of a stage: for the plan before it and the plan after it. That of stage 0 is one of
-- the first stage.
pub record IsStageCert (o : Order) (n : ℕ) (cert : Certificate) : Type 0 where
  pub common : AreCommon (plan_before o (n - 1)) (plan_before o (max n 1)) (ranks_of cert)
      o.transition.limit o.transition.spare
  pub fits : IsCertificateOf (plan_before o n) cert

module _ {A : Type 0} where
  -- where an order was found, it has the stage that is asked for, if one is
  abbrev pub HasStage : Option ℕ → OrderVerdict A → Type 0
  HasStage (Some n) (Ordered o) = IsStageOf o n
  HasStage stage verdict = Unit {0}

  -- it has not, but so many
  abbrev pub LacksStage : Option ℕ → OrderVerdict A → ℕ → Type 0
  LacksStage (Some n) (Ordered o) stages = (stages ≡ stages_in o) × (IsStageOf o n → ⊥)
  LacksStage stage verdict stages = ⊥
