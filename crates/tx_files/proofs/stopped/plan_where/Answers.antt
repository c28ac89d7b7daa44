use Rattle.tx_files.proofs.Common.{refl, inl, inr, exits_with, memory_stop}
use Rattle.tx_files.proofs.Uncalled.{uncalled}
use Rattle.tx_files.proofs.stopped.plan_where.Goals as goal

pub order-requires : goal.order-requires
order-requires g c = record { network = c.requires }

pub returns-in_err-order-clause-plan : goal.returns-in_err-order-clause-plan
returns-in_err-order-clause-plan g c =
    rw (exits_with c.from_residual.result memory_stop c.from_residual.ensures.1) (inl refl)

pub returns-in_err-order-clause-calls : goal.returns-in_err-order-clause-calls
returns-in_err-order-clause-calls g c = uncalled g.R.Source.called c.args.done.now

pub returns-in-Ordered-clause-plan : goal.returns-in-Ordered-clause-plan
returns-in-Ordered-clause-plan g c =
    inr (_, c.in_ok-order.ensures.right, rw c.in-Ordered.is c.plan_in.ensures.plan)

pub returns-clause-plan : goal.returns-clause-plan
returns-clause-plan g c = inr (_, c.in_ok-order.ensures.right, rw c.in-NoOrder.is refl)

pub returns-clause-calls : goal.returns-clause-calls
returns-clause-calls g c = uncalled g.R.Source.called c.args.done.now

pub returns-in-Ordered-clause-target : goal.returns-in-Ordered-clause-target
returns-in-Ordered-clause-target g c =
    let right = rw c.in-Ordered.is at c.in_ok-order.ensures.right in
    rw (right.old_plan, right.new_plan) at c.plan_in.ensures.target
