use Rattle.tx_order.proofs.Verdicts.{was_ordered, none_found}
use Rattle.tx_order.proofs.judging.judge_order.Goals as goal

pub returns-in-Ordered : goal.returns-in-Ordered
returns-in-Ordered g c =
    let p = c.args.joined.old in
    let q = c.args.joined.new in
    c.judge_new.ensures p q (was_ordered p q c.args.limits.limit c.args.limits.spare c.in_ok-order.field-0 c.in_ok-order.ensures.right c.in-Ordered.order c.in-Ordered.is)

pub returns-in-NoOrder : goal.returns-in-NoOrder
returns-in-NoOrder g c =
    none_found c.args.joined.old c.args.joined.new c.args.limits.limit c.args.limits.spare c.in_ok-order.field-0 c.in_ok-order.ensures.right c.args.new.now c.in-NoOrder.plans c.in-NoOrder.before c.in-NoOrder.after c.in-NoOrder.is
