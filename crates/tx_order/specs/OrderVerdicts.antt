-- The verdict on an order into a plan of any network.
use Rattle.std.specs.Prelude.{ℕ}
use Rattle.tx_plan.specs.Plan.{Plan}
use Rattle.tx_rank.specs.declared.ranking.Ranking.TheVariants.{Fails}
use Rattle.tx_audit.specs.Audits.{IsRightRanking}
use Rattle.tx_change.specs.ChangeAnswers.{IsClearedPlan}
use Rattle.tx_order.specs.declared.judging.OrderVerdict.{OrderVerdict}
use Rattle.tx_order.specs.declared.judging.OrderVerdict.TheVariants.{Ordered, NoOrder, NewUnsound}
use Rattle.tx_order.specs.Orders.{CanBothBeCertified}
use Rattle.tx_order.specs.Switchings.{IsOrdered, HasNoOrder}

module _ {A : Type 0} where
  -- Over the joined network and of the new plan as it is: YES with an order, where a certificate
  -- clears the new plan too. NO with what is wrong with both plans over the joined network, or
  -- where nothing is with findings of the new plan.
  abbrev pub IsRightVerdict : (before after new : Plan) → (limit spare : ℕ) → OrderVerdict A
      → Type 0
  IsRightVerdict before after new limit spare (Ordered o) =
      IsOrdered before after limit spare o × IsClearedPlan new limit spare
  IsRightVerdict before after new limit spare (NoOrder plans b a) =
      HasNoOrder before after limit spare plans b a
  IsRightVerdict before after new limit spare (NewUnsound findings) =
      CanBothBeCertified before after limit spare × IsRightRanking new limit spare (Fails findings)
