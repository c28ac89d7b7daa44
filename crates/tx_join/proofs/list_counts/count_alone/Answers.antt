use Rattle.tx_join.proofs.Common.{◌<◌, false, not, length, length-append, filter, ap, sym, ◌∙◌, ◌∷◌, [], arith, take_all, take, entry_at, option_map_or, Route, has_both}
use Rattle.tx_join.proofs.Found.{kept_next, left_next}
use Rattle.tx_join.proofs.list_counts.count_alone.Goals as goal
use Rattle.tx_join.proofs.list_counts.count_alone.Goals.{then-is_alone_at, else-is_alone_at}

pub loop-index-preserved : goal.loop-index-preserved
loop-index-preserved g c =
    let p = c.args.plan.now in
    let t = λ (r : Route). not (has_both c.args.other.now p r.exchange r.code) in
    let i = c.loop-index.index in
    let low : i < length p.routes = omega (arith, c.loop-index-test.true, c.routes-index-end.ensures.count) in
    let row = entry_at p.routes i low in
    let told = ap (λ o. option_map_or t o false) (sym row.1) ∙ sym c.is_alone_at.ensures in
    let before = c.loop-index.invariant in
    elim c.if-is_alone_at.branch [
      | then-is_alone_at w ↦
          let more = ap length (kept_next t p.routes i row.0 row.1 (told ∙ w.if-is_alone_at.true)) in
          let one = length-append (filter t (take i p.routes)) (row.0 ∷ []) in
          (omega (arith, more, one, before.0, w.count-is), omega (arith, before.1, w.count-is))
      | else-is_alone_at w ↦
          let same = ap length (left_next t p.routes i row.0 row.1 (told ∙ w.if-is_alone_at.false)) in
          (omega (arith, same, before.0, w.count-is), omega (arith, before.1, w.count-is))
    ]

pub returns : goal.returns
returns g c =
    let p = c.args.plan.now in
    let t = λ (r : Route). not (has_both c.args.other.now p r.exchange r.code) in
    c.loop-index.invariant.0 ∙ ap (λ rs. length (filter t rs)) (take_all c.loop-index.index p.routes (omega arith))
