use Rattle.tx_plantext.proofs.Common.{codes, ◌≡◌, sym, ◌∙◌, bytes_eq-Decides}
use Rattle.tx_plantext.proofs.plan_line.PlanLine.read.Goals as goal

pub returns-then-eq-4 : goal.returns-then-eq-4
returns-then-eq-4 c =
    let group : c.in-Some.first.now ≡ codes "GROUP" = (bytes_eq-Decides _ _).0 (sym c.eq-else-eq-3.ensures ∙ c.if-eq-4.true) ∙ c.as_slice-else-eq-3.ensures in
    rw (c.in-Some.ensures.steps, group) (c.group_line.ensures c.args.version)

pub returns-then-eq-5 : goal.returns-then-eq-5
returns-then-eq-5 c =
    let route : c.in-Some.first.now ≡ codes "ROUTE" = (bytes_eq-Decides _ _).0 (sym c.eq-else-eq-4.ensures ∙ c.if-eq-5.true) ∙ c.as_slice-else-eq-4.ensures in
    rw (c.in-Some.ensures.steps, route) (c.route_line.ensures c.args.version)
