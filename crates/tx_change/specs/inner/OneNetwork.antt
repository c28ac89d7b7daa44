-- Plans of one network.
use Rattle.tx_plan.specs.Plan.{Plan}
use Rattle.tx_plan.specs.Rules.{IsPlan}
use Rattle.tx_plan.specs.Mixtures.{SameNetwork}

-- two plans of one network, which both obey the rules
pub record AreOfOneNetwork (old new : Plan) : Type 0 where
  pub network : SameNetwork old new
  pub old_rules : IsPlan old
  pub new_rules : IsPlan new
