use Rattle.tx_page_change.proofs.Common.{length, ap, ◌∙◌, sym, arith, sum_by, range_with_len, take_all, before_of, after_of}
use Rattle.std.proofs.Common.{◌+◌, ◌<◌}
use Rattle.std.proofs.lemmas.List.FromFn.{length-range_with_len}
use Rattle.tx_join.proofs.Sums.{range_sum_more}
use Rattle.tx_page_change.specs.WayTexts.{lists_differing_at}
use Rattle.tx_page_change.proofs.way.lists_differing.Goals as goal

pub loop-index-preserved : goal.loop-index-preserved
loop-index-preserved g c =
    let n = length c.args.plan.now.exchanges in
    let b = c.args.between.now in
    let low : c.loop-index.index < n = omega (arith, c.loop-index-test.true, c.exchanges-index-end.ensures.count) in (
      ap (λ k. k + c.lists_differing_at-count.result) c.loop-index.invariant.0 ∙ sym (range_sum_more (lists_differing_at c.args.plan.now (before_of b) (after_of b)) n c.loop-index.index c.of.result c.lists_differing_at-count.result low c.of.ensures c.lists_differing_at-count.ensures.count),
      omega (arith, c.loop-index.invariant.1, c.lists_differing_at-count.ensures.few),
    )

pub returns : goal.returns
returns g c =
    let n = length c.args.plan.now.exchanges in
    let b = c.args.between.now in
    c.loop-index.invariant.0 ∙ ap (sum_by (lists_differing_at c.args.plan.now (before_of b) (after_of b))) (take_all c.loop-index.index (range_with_len 0 n) (omega (arith, length-range_with_len 0 n)))
