use Rattle.tx_requests.proofs.Ordering.{answer_stage, answer_rules}
use Rattle.tx_requests.proofs.order.OrderRequestRequest.end.Goals as goal

pub end_at_stage-requires-clause-there : goal.end_at_stage-requires-clause-there
end_at_stage-requires-clause-there g c =
    answer_stage c.args.self.now c.args.answer c.in-Ordered.order c.in-Ordered.is c.requires
    c.in-Some.stage c.in-Some.is

pub end_at_stage-requires-clause-rules : goal.end_at_stage-requires-clause-rules
end_at_stage-requires-clause-rules g c =
    answer_rules c.args.self.now c.args.answer c.in-Ordered.order c.in-Ordered.is c.requires c.in-Some.stage

pub returns-in-Some : goal.returns-in-Some
returns-in-Some g c = rw (c.in-Ordered.is, c.in-Some.is) c.end_at_stage.ensures

pub returns-in-Ordered : goal.returns-in-Ordered
returns-in-Ordered g c = rw (c.in-Ordered.is, c.in-None.is) (c.of.ensures.status, c.of.ensures.made)
