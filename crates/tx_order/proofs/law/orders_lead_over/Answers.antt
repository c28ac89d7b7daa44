use Rattle.tx_order.proofs.LeadingOver.{leads_over}
use Rattle.tx_order.proofs.law.orders_lead_over.Goals as goal

pub returns : goal.returns
returns c = leads_over
