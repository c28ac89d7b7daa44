use Rattle.tx_page_change.proofs.Common.{length, ap, ◌∙◌, arith, sum_by, range_with_len, take_all}
use Rattle.std.proofs.lemmas.List.FromFn.{length-range_with_len}
use Rattle.tx_page_change.specs.Numbers.{cut_lines_at}
use Rattle.tx_page_change.proofs.worst.lines_cut.Goals as goal

pub returns : goal.returns
returns g c =
    let p = c.args.plan.now in
    let n = length p.exchanges in
    c.loop-index.invariant.0 ∙ ap (sum_by (cut_lines_at p c.args.outcome.now.cuts.items)) (take_all c.loop-index.index (range_with_len 0 n) (omega (arith, length-range_with_len 0 n)))
