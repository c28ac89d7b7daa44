use Rattle.tx_order.proofs.Common.{ap, subst, Ranking, IsRightRanking, Transition}
use Rattle.tx_order.proofs.Confirming.{ordered, old_denied, new_denied}
use Rattle.tx_order.proofs.switching.order_by.Goals as goal

pub returns-in_ok-order_of-in-Found-after-clause-right : goal.returns-in_ok-order_of-in-Found-after-clause-right
returns-in_ok-order_of-in-Found-after-clause-right g c =
    let e = c.in_ok-order_of-in-Found-after.ensures in
    ordered c.in_ok-order_of-in-Found-after.field-0 e.kept c.args.plans.old c.args.plans.new c.args.limits.limit c.args.limits.spare
    (ap (λ (w : Transition). w.old) e.same) (ap (λ (w : Transition). w.new) e.same) (ap (λ (w : Transition). w.limit) e.same) (ap (λ (w : Transition). w.spare) e.same) e.cleared

pub returns-in_default-after-clause-right : goal.returns-in_default-after-clause-right
returns-in_default-after-clause-right g c =
    new_denied c.args.plans c.args.limits.limit c.args.limits.spare _ c.args.after
    (subst (λ (r : Ranking g.row.A.Denot). IsRightRanking c.args.plans.old c.args.limits.limit c.args.limits.spare r) c.in-Found.is c.requires.before)
    c.requires.after c.in_default-after.not-Found

pub returns-in_default-after-clause-exactly : goal.returns-in_default-after-clause-exactly
returns-in_default-after-clause-exactly g c = ((λ h. absurd h), (returns-in_default-after-clause-right g c).none)

pub returns-in_default-clause-right : goal.returns-in_default-clause-right
returns-in_default-clause-right g c =
    old_denied c.args.plans c.args.limits.limit c.args.limits.spare c.args.before c.args.after
    c.requires.before c.requires.after c.in_default.not-Found

pub returns-in_default-clause-exactly : goal.returns-in_default-clause-exactly
returns-in_default-clause-exactly g c = ((λ h. absurd h), (returns-in_default-clause-right g c).none)
