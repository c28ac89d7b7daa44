use Rattle.tx_files.proofs.Common.{◌≡◌, ◌++◌, ◌∷◌, [], ◌∙◌, sym, ap, subst, is_down}
use Rattle.tx_files.proofs.LeftGroups.{one_down, none_down}
use Rattle.tx_files.proofs.left.groups_down.Goals as goal
use Rattle.tx_files.proofs.left.groups_down.Goals.{then-is_down+in_ok-push, else-is_down}

pub loop-index-preserved : goal.loop-index-preserved
loop-index-preserved g c =
    let t = is_down c.args.plan.now c.args.down.now in
    let old = c.loop-index.groups.items in
    let told = sym (ap t c.of-group.ensures) ∙ sym c.is_down.ensures in
    elim c.if-is_down.branch [
      | then-is_down+in_ok-push w ↦ (
          let new : c.if-is_down.groups.items ≡ old ++ c.of-group.result ∷ [] = let a = w.groups-is in let b = w.in_ok-push.ensures.items in cc in
          one_down t c.loop-index.index old _ c.loop-index.invariant
          (new ∙ ap (λ g. old ++ g ∷ []) c.of-group.ensures) (told ∙ w.if-is_down.true))
      | else-is_down w ↦ (
          let same : c.if-is_down.groups.items ≡ old = let a = w.groups-is in cc in
          none_down t c.loop-index.index old _ c.loop-index.invariant same (told ∙ w.if-is_down.false))
    ]
