use Rattle.std.proofs.Common.{◌∙◌}
use Rattle.tx_join.proofs.network.joined_network.Goals as goal

pub add_network-requires : goal.add_network-requires
add_network-requires g c = record { plans = c.requires; none = c.new-builder.ensures }

pub returns-in-Ok-clause-plan : goal.returns-in-Ok-clause-plan
returns-in-Ok-clause-plan g c = c.finish.ensures ∙ c.in-Ok.ensures.added
