use Rattle.tx_join.proofs.Common.{◌≡◌, ◌+◌, ◌<◌, length, ap, sym, ◌∙◌, arith, count_by, if◌then◌else◌, range_with_len, take_all, length-range_with_len, is_changed}
use Rattle.tx_join.proofs.Sums.{count_more, count_few}
use Rattle.tx_join.proofs.list_counts.count_changed_at.Goals as goal
use Rattle.tx_join.proofs.list_counts.count_changed_at.Goals.{then-is_changed, else-is_changed}

pub loop-index-preserved : goal.loop-index-preserved
loop-index-preserved g c =
    let n = length c.args.plan.now.codes in
    let low : c.loop-index.index < n = omega (arith, c.loop-index-test.true, c.codes-index-end.ensures.count) in
    let now : c.if-is_changed.count ≡ (if c.is_changed.result then c.loop-index.count + 1 else c.loop-index.count) = elim c.if-is_changed.branch [
      | then-is_changed w ↦ w.count-is ∙ ap (λ t. if t then c.loop-index.count + 1 else c.loop-index.count) (sym w.if-is_changed.true)
      | else-is_changed w ↦ w.count-is ∙ ap (λ t. if t then c.loop-index.count + 1 else c.loop-index.count) (sym w.if-is_changed.false)
    ] in (
      count_more (is_changed c.args.plan.now c.args.other.now c.args.exchange) n c.loop-index.index c.of.result c.is_changed.result c.loop-index.count c.if-is_changed.count low c.of.ensures c.is_changed.ensures c.loop-index.invariant.0 now,
      count_few c.is_changed.result c.loop-index.count c.if-is_changed.count c.loop-index.index now c.loop-index.invariant.1,
    )

pub returns-clause-count : goal.returns-clause-count
returns-clause-count g c =
    let xs = range_with_len 0 (length c.args.plan.now.codes) in
    c.loop-index.invariant.0 ∙ ap (count_by (is_changed c.args.plan.now c.args.other.now c.args.exchange)) (take_all c.loop-index.index xs (omega (arith, length-range_with_len 0 (length c.args.plan.now.codes))))
