-- How an order over a joined network leads from the old plan to the new one.
use Rattle.std.specs.Prelude.{◌≡◌}
use Rattle.tx_plan.specs.Plan.{Plan}
use Rattle.tx_join.specs.Joined.{joined_old, joined_new}
use Rattle.tx_join.specs.Laws.{LeadOver}
use Rattle.tx_order.specs.Orders.{AreAlike}
use Rattle.tx_order.specs.Ordered.{Order, plan_before, stages_in}

-- The old plan with what is put there before is the plan before the first stage. The stages lead to
-- the plan that is the new one, but for what goes after and what is opened then.
pub record LeadsOver (old new : Plan) (o : Order) : Type 0 where
  pub ends : LeadOver old new (joined_old old new) (joined_new old new)
  pub first : plan_before o 0 ≡ joined_old old new
  pub last : AreAlike (plan_before o (stages_in o)) (joined_new old new)
