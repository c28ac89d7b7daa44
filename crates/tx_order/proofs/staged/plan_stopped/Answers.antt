use Rattle.tx_order.proofs.Common.{sym, subst, ◌∙◌, IsPlan}
use Rattle.tx_order.specs.Stopped.{IsStopped}
use Rattle.tx_order.proofs.Confirming.{with_stopped}
use Rattle.tx_order.proofs.Stopping.{stopped}
use Rattle.tx_order.proofs.staged.plan_stopped.Goals as goal

pub with_lists-requires : goal.with_lists-requires
with_lists-requires g c =
    let lists = rw c.from.ensures at c.in_ok-lists.ensures in
    subst IsPlan (sym (with_stopped c.args.order c.args.stage _ c.in_ok-lists.lists lists))
    (stopped c.args.order c.rules.ensures.kept c.args.stage _).mixture.rules

pub returns-clause-plan : goal.returns-clause-plan
returns-clause-plan g c =
    let lists = rw c.from.ensures at c.in_ok-lists.ensures in
    subst (IsStopped c.args.order c.args.stage _)
    (sym (c.with_lists.ensures.plan ∙ with_stopped c.args.order c.args.stage _ c.in_ok-lists.lists lists))
    (stopped c.args.order c.rules.ensures.kept c.args.stage _)
