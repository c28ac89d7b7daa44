use Rattle.tx_join.proofs.Common.{◌+◌, ◌<◌, length, ap, sym, ◌∙◌, arith, sum_by, range_with_len, take_all, length-range_with_len, changed_at}
use Rattle.tx_join.proofs.Sums.{range_sum_more}
use Rattle.tx_join.proofs.list_counts.count_changed.Goals as goal

pub loop-index-preserved : goal.loop-index-preserved
loop-index-preserved g c =
    let n = length c.args.plan.now.exchanges in
    let low : c.loop-index.index < n = omega (arith, c.loop-index-test.true, c.exchanges-index-end.ensures.count) in (
      ap (λ k. k + c.count_changed_at-count.result) c.loop-index.invariant.0 ∙ sym (range_sum_more (changed_at c.args.plan.now c.args.other.now) n c.loop-index.index c.of.result c.count_changed_at-count.result low c.of.ensures c.count_changed_at-count.ensures.count),
      omega (arith, c.loop-index.invariant.1, c.count_changed_at-count.ensures.few),
    )

pub returns : goal.returns
returns g c =
    let xs = range_with_len 0 (length c.args.plan.now.exchanges) in
    c.loop-index.invariant.0 ∙ ap (sum_by (changed_at c.args.plan.now c.args.other.now)) (take_all c.loop-index.index xs (omega (arith, length-range_with_len 0 (length c.args.plan.now.exchanges))))
