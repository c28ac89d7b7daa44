use Rattle.tx_order.proofs.Common.{ap, ◌∙◌, ranks_of, level_of, level_at, Transition}
use Rattle.tx_order.proofs.transition.Transition.level.Goals as goal

pub returns : goal.returns
returns g c =
    c.level_of.ensures
    ∙ ((λ i. level_of c.self.inside.limits.limit (c.rank-before.ensures.rank i) (c.rank-after.ensures.rank i))
    ∙ ap (λ (w : Transition). level_at (ranks_of w.before) (ranks_of w.after) w.limit c.args.exchange c.args.code) c.self.view_is)
