use Rattle.tx_change.proofs.Common.{sym, subst, IsPlan}
use Rattle.tx_plan.specs.Mixed.{rerouted}
use Rattle.tx_plan.proofs.Mixing.{mixed_rules}
use Rattle.tx_change.specs.Shown.{listed_by, barred_by}
use Rattle.tx_change.proofs.showing.mix.Goals as goal

pub rerouted-requires : goal.rerouted-requires
rerouted-requires g c =
    let old = c.args.old in
    subst IsPlan (λ i. rerouted old (sym c.in_ok-lists.ensures.routes i) (sym c.in_ok-lists.ensures.bars i))
    (mixed_rules old c.args.new.now c.args.code (listed_by old c.args.code c.args.spare c.args.walk.now) (barred_by old c.args.code c.args.walk.now) c.rules.ensures c.rules-2.ensures c.requires)
