use Rattle.tx_page_change.proofs.Common.{length, ap, ◌∙◌, arith, sum_by, range_with_len, take_all}
use Rattle.std.proofs.lemmas.List.FromFn.{length-range_with_len}
use Rattle.tx_plan.specs.Circuits.{count_of}
use Rattle.tx_page_change.proofs.counts.count_circuits.Goals as goal

pub returns : goal.returns
returns g c =
    let n = length c.args.plan.now.groups in
    c.loop-index.invariant.0 ∙ ap (sum_by (count_of c.args.plan.now)) (take_all c.loop-index.index (range_with_len 0 n) (omega (arith, length-range_with_len 0 n)))
