use Rattle.std.proofs.Common.{◌∙◌, ap, sym, subst}
use Rattle.tx_plan.specs.Plan.{Plan}
use Rattle.tx_plan.specs.Rules.{IsPlan}
use Rattle.tx_plan.specs.Mixed.{rerouted}
use Rattle.tx_down.specs.Without.{routes_over}
use Rattle.tx_down.proofs.Rules.{without_rules}
use Rattle.tx_down.proofs.without.plan_without.Goals as goal

pub rerouted-requires : goal.rerouted-requires
rerouted-requires g c =
    let p = c.args.plan.now in
    let n = c.in_ok-network.ensures.left in
    let r = c.in-Ok.ensures ∙ ap (λ (w : Plan). routes_over w p) n in
    let b = c.in_ok-bars.ensures in
    subst IsPlan (λ i. rerouted (sym n i) (sym r i) (sym b i)) (without_rules p c.rules.ensures c.args.down.now)
