use Rattle.tx_text.proofs.Putting.{puts_is}
use Rattle.tx_plantext.proofs.PlanWriting.{route_placed}
use Rattle.tx_plantext.proofs.plan_writer.write_route_at.Goals as goal

pub returns-in-Some : goal.returns-in-Some
returns-in-Some g c = puts_is (route_placed c.args.plan.now c.args.index _ c.in-Some.ensures.rules c.in-Some.ensures.value) c.write_route.ensures
