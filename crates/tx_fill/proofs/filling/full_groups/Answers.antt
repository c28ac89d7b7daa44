use Rattle.std.proofs.Common.{ℕ, ◌++◌, ◌∷◌, [], ◌∙◌, ap, sym, Vec}
use Rattle.tx_fill.specs.Fills.{is_full}
use Rattle.tx_fill.proofs.Settled.{group_put, group_passed}
use Rattle.tx_fill.proofs.filling.full_groups.Goals as goal
use Rattle.tx_fill.proofs.filling.full_groups.Goals.{then-is_full+in_ok-push, else-is_full}

pub loop-index-preserved : goal.loop-index-preserved
loop-index-preserved g c =
    let t = is_full c.args.plan.now c.args.network.now.state in
    let old = c.loop-index.full.items in
    let told = ap t (sym c.of-group.ensures) ∙ sym c.is_full.ensures in
    elim c.if-is_full.branch [
      | then-is_full+in_ok-push w ↦
          group_put t c.loop-index.index old _ c.loop-index.invariant (told ∙ w.if-is_full.true)
          (ap (λ (v : Vec _ _). v.items) w.full-is ∙ w.in_ok-push.ensures.items
          ∙ ap (λ (k : ℕ). old ++ k ∷ []) c.of-group.ensures)
      | else-is_full w ↦
          group_passed t c.loop-index.index old _ c.loop-index.invariant (told ∙ w.if-is_full.false)
          (ap (λ (v : Vec _ _). v.items) w.full-is)
    ]
