use Rattle.std.proofs.Common.{ℕ, ◌∙◌, ◌∷◌, [], Bool, not, length, sym, ap, arith, length-append}
use Rattle.arrayvec.specs.ArrayVec.{ArrayVec}
use Rattle.tx_plan.proofs.ListFound.{list_few}
use Rattle.tx_plan.proofs.Filtered.{keep_put, keep_passed}
use Rattle.tx_trace.proofs.Common.{is_in, groups_left}
use Rattle.tx_trace.proofs.left.groups_left.Goals as goal
use Rattle.tx_trace.proofs.left.groups_left.Goals.{then-not-contains, else-not-contains}

pub push-requires : goal.push-requires
push-requires g c =
    let few = list_few c.args.plan.now c.list-list.ensures.rules c.args.exchange c.args.code in
    let same = ap length c.list-list.ensures.value in
    let at = c.loop-group-test.true in
    let within = c.loop-group.invariant.few in
    omega arith

pub loop-group-preserved : goal.loop-group-preserved
loop-group-preserved g c =
    let xs = c.list-list.result.now in
    let all = groups_left c.args.down.now xs in
    let t : ℕ → Bool = λ h. not (is_in h c.args.down.now) in
    let i = c.loop-group.invariant in
    let at = c.loop-group-test.true in
    let within = i.few in
    elim c.if-not-contains.branch [
      | then-not-contains w ↦ (
          let new = ap (λ (l : ArrayVec ℕ). l.items) w.left-is ∙ w.push.ensures.items in
          record {
            few = let l = ap length new in
                let a = length-append c.loop-group.left.items (c.group-item.result ∷ []) in
                omega arith;
            kept = keep_put xs c.loop-group.group-index c.group-item.result at c.group-item.is t
                c.loop-group.left.items all i.kept c.if-not-contains.left.items
                (ap not (sym c.contains.ensures.value ∙ w.if-not-contains.true)) new;
          })
      | else-not-contains w ↦ record {
        few = let l = ap (λ (l : ArrayVec ℕ). length l.items) w.left-is in omega arith;
        kept = keep_passed xs c.loop-group.group-index c.group-item.result at c.group-item.is t
            c.loop-group.left.items all i.kept c.if-not-contains.left.items
            (ap not (sym c.contains.ensures.value ∙ w.if-not-contains.false))
            (ap (λ (l : ArrayVec ℕ). l.items) w.left-is);
      }
    ]
