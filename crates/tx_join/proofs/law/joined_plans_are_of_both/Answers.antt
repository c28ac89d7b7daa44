use Rattle.tx_join.proofs.TheirLists.{over_both, their_lists}
use Rattle.tx_join.proofs.LeadOver.{lead_over}
use Rattle.tx_join.proofs.law.joined_plans_are_of_both.Goals as goal

pub returns-clause-network : goal.returns-clause-network
returns-clause-network c = over_both

pub returns-clause-lists : goal.returns-clause-lists
returns-clause-lists c = their_lists

pub returns-clause-lead_over : goal.returns-clause-lead_over
returns-clause-lead_over c = lead_over
