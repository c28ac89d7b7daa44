use Rattle.tx_page_change.proofs.Common.{length, ap, ◌∙◌, arith, count_by, range_with_len, take_all, before_of, after_of}
use Rattle.std.proofs.lemmas.List.FromFn.{length-range_with_len}
use Rattle.tx_page_change.specs.WayTexts.{is_other_list}
use Rattle.tx_page_change.proofs.way.lists_differing_at.Goals as goal

pub returns-clause-count : goal.returns-clause-count
returns-clause-count g c =
    let n = length c.args.plan.now.codes in
    let b = c.args.between.now in
    c.loop-index.invariant.0 ∙ ap (count_by (is_other_list (before_of b) (after_of b) c.args.exchange)) (take_all c.loop-index.index (range_with_len 0 n) (omega (arith, length-range_with_len 0 n)))
