use Rattle.tx_mend.proofs.Common.{ℕ, ◌∙◌, ◌∷◌, [], Bool, length, sym, ap, arith, length-append, filter, ArrayVec, leads_below, list_few}
use Rattle.tx_plan.proofs.Filtered.{keep_put, keep_passed}
use Rattle.tx_mend.proofs.filling.kept_below.Goals as goal
use Rattle.tx_mend.proofs.filling.kept_below.Goals.{then-leads_below, else-leads_below}

pub push-requires : goal.push-requires
push-requires g c =
    let few = list_few c.args.plan.now c.list-present.ensures.rules c.args.exchange c.args.code in
    let same = ap length c.list-present.ensures.value in
    let at = c.loop-group-test.true in
    let within = c.loop-group.invariant.few in
    omega arith

pub loop-group-preserved : goal.loop-group-preserved
loop-group-preserved g c =
    let p = c.args.plan.now in
    let xs = c.list-present.result.now in
    let i = c.loop-group.invariant in
    let at = c.loop-group-test.true in
    let within = i.few in
    elim c.if-leads_below.branch [
      | then-leads_below w ↦ (let new = ap (λ (l : ArrayVec ℕ). l.items) w.list-is ∙ w.push.ensures.items in
          record {
            few = let l = ap length new in let a = length-append c.loop-group.list.items (c.group-item.result ∷ []) in omega arith;
            kept = λ of e.
                let t : ℕ → Bool = λ h. leads_below p of c.args.rank c.args.exchange h in
                keep_put xs c.loop-group.group-index c.group-item.result at c.group-item.is t c.loop-group.list.items (filter t xs) (i.kept of e) c.if-leads_below.list.items (sym (c.leads_below.ensures of e) ∙ w.if-leads_below.true) new;
          })
      | else-leads_below w ↦ record {
        few = let l = ap (λ (l : ArrayVec ℕ). length l.items) w.list-is in omega arith;
        kept = λ of e.
            let t : ℕ → Bool = λ h. leads_below p of c.args.rank c.args.exchange h in
            keep_passed xs c.loop-group.group-index c.group-item.result at c.group-item.is t c.loop-group.list.items (filter t xs) (i.kept of e) c.if-leads_below.list.items (sym (c.leads_below.ensures of e) ∙ w.if-leads_below.false) (ap (λ (l : ArrayVec ℕ). l.items) w.list-is);
      }
    ]
