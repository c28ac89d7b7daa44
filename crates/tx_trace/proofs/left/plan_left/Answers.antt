use Rattle.tx_trace.proofs.Common.{sym, subst, IsPlan}
use Rattle.tx_plan.specs.Mixed.{rerouted}
use Rattle.tx_trace.proofs.LeftRoutes.{left_rules}
use Rattle.tx_trace.proofs.left.plan_left.Goals as goal

pub rerouted-requires : goal.rerouted-requires
rerouted-requires g c =
    let p = c.args.plan in
    subst IsPlan (λ i. rerouted p (sym c.in_ok-routes.ensures i) (sym c.in_ok-bars.ensures i))
    (left_rules p c.args.down.now c.rules.ensures)
