use Rattle.tx_risk.proofs.Common.{◌∷◌, ◌++◌, [], ◌∙◌, ℕ, List, Vec, sym, ap, filter, arith, take_all, is_emptied}
use Rattle.tx_risk.proofs.Kept.{kept_next, passed_next}
use Rattle.tx_risk.proofs.hits.emptied.Goals as goal
use Rattle.tx_risk.proofs.hits.emptied.Goals.{then-is_emptied+in_ok-push, else-is_emptied}

pub loop-end-preserved : goal.loop-end-preserved
loop-end-preserved g c =
    let p = is_emptied c.args.left.now in
    let xs = c.args.ends.now in
    let l = c.loop-end in
    let x = c.end-item.result in
    let is = sym c.is_emptied.ensures in
    elim c.if-is_emptied.branch [
      | then-is_emptied+in_ok-push w ↦ ap (λ (v : Vec _ _). v.items) w.emptied-is ∙ w.in_ok-push.ensures.items
          ∙ ap (λ (k : List ℕ). k ++ x ∷ []) l.invariant
          ∙ sym (kept_next p xs l.end-index x c.loop-end-test.true c.end-item.is (is ∙ w.if-is_emptied.true))
      | else-is_emptied w ↦ ap (λ (v : Vec _ _). v.items) w.emptied-is ∙ l.invariant
          ∙ sym (passed_next p xs l.end-index x c.loop-end-test.true c.end-item.is (is ∙ w.if-is_emptied.false))
    ]

pub returns : goal.returns
returns g c =
    let l = c.loop-end in
    let xs = c.args.ends.now in
    l.invariant ∙ ap (filter (is_emptied c.args.left.now)) (take_all l.end-index xs (let t = c.loop-end-test.false in omega arith))
