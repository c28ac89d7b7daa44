use Rattle.tx_fill.proofs.Common.{ℕ, ◌∙◌, ap, Plan, may_seize}
use Rattle.tx_fill.proofs.Settled.{first_end}
use Rattle.tx_fill.proofs.filling.is_full.Goals as goal

pub first_free-requires : goal.first_free-requires
first_free-requires g c =
    ap (λ (p : Plan). may_seize p c.args.group c.ends-end.result.0) c.requires.plan
    ∙ ap (λ (e : ℕ × ℕ). may_seize c.args.plan.now c.args.group e.0) c.ends-end.ensures
    ∙ first_end c.args.plan.now c.args.group c.requires.group
