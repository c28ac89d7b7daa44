use Rattle.tx_page_change.proofs.Common.{length, ap, ◌∙◌, arith, count_by, range_with_len, take_all, is_origin}
use Rattle.std.proofs.lemmas.List.FromFn.{length-range_with_len}
use Rattle.tx_page_change.proofs.counts.count_origins.Goals as goal

pub returns : goal.returns
returns g c =
    let xs = range_with_len 0 (length c.args.plan.now.exchanges) in
    c.loop-index.invariant.0 ∙ ap (count_by (is_origin c.args.plan.now)) (take_all c.loop-index.index xs (omega (arith, length-range_with_len 0 (length c.args.plan.now.exchanges))))
