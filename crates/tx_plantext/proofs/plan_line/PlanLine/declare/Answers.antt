use Rattle.tx_plantext.proofs.Common.{refl, code_refusals, group_refusals, route_refusals, bar_refusals}
use Rattle.tx_plantext.specs.PlanText.{declare, count_of}
use Rattle.tx_plantext.proofs.Entries.{declared_from}
use Rattle.tx_plantext.proofs.PlanLines.{direction_back}
use Rattle.tx_plantext.proofs.plan_line.PlanLine.declare.Goals as goal

pub returns-in-Code-clause-declared : goal.returns-in-Code-clause-declared
unfolding declare
returns-in-Code-clause-declared g c =
    rw c.in-Code.is (declared_from (code_refusals c.args.plan.now c.in-Code.code.now c.in-Code.home.now) _ _ _ _ refl c.code.ensures)

pub returns-in-Group-clause-declared : goal.returns-in-Group-clause-declared
unfolding declare
returns-in-Group-clause-declared g c =
    let line = c.in-Group in
    rw (c.in-Group.is, direction_back line.direction) (declared_from (group_refusals c.args.plan.now line.name.now line.a.now line.b.now (count_of line.count.now)) _ _ _ _ refl (rw c.count_of.ensures at c.group.ensures))

pub returns-in-Route-clause-declared : goal.returns-in-Route-clause-declared
unfolding declare
returns-in-Route-clause-declared g c =
    let line = c.in-Route in
    rw c.in-Route.is (declared_from (route_refusals c.args.plan.now line.exchange.now line.code.now line.groups) _ _ _ _ refl (rw c.again.ensures at c.route.ensures))

pub returns-in-Bar-clause-declared : goal.returns-in-Bar-clause-declared
unfolding declare
returns-in-Bar-clause-declared g c =
    let line = c.in-Bar in
    rw c.in-Bar.is (declared_from (bar_refusals c.args.plan.now line.exchange.now line.code.now) _ _ _ _ refl c.bar.ensures)
