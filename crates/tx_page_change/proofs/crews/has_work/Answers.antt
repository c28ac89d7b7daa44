use Rattle.std.proofs.Common.{◌<◌}
use Rattle.tx_page_change.proofs.Common.{length, ap, sym, ◌∙◌, arith, range_with_len, take_all, before_of, after_of}
use Rattle.std.specs.List.{list_any}
use Rattle.std.proofs.lemmas.List.FromFn.{length-range_with_len}
use Rattle.tx_page_change.specs.CrewTexts.{has_work_for}
use Rattle.tx_page_change.proofs.AnyBelow.{none_more, any_here}
use Rattle.tx_page_change.proofs.crews.has_work.Goals as goal

pub returns-then-has_work_for : goal.returns-then-has_work_for
returns-then-has_work_for g c =
    let b = c.args.between.now in
    let n = length c.args.plan.now.codes in
    let low : c.loop-index.index < n = omega (arith, c.loop-index-test.true, c.codes-index-end.ensures.count) in
    sym (any_here (has_work_for (before_of b) (after_of b) c.args.exchange) n c.loop-index.index c.of.result low c.of.ensures (sym c.has_work_for.ensures ∙ c.if-has_work_for.true))

pub loop-index-preserved : goal.loop-index-preserved
loop-index-preserved g c =
    let b = c.args.between.now in
    let n = length c.args.plan.now.codes in
    let low : c.loop-index.index < n = omega (arith, c.loop-index-test.true, c.codes-index-end.ensures.count) in
    none_more (has_work_for (before_of b) (after_of b) c.args.exchange) n c.loop-index.index c.of.result low c.of.ensures c.loop-index.invariant (sym c.has_work_for.ensures ∙ c.if-has_work_for.false)

pub returns : goal.returns
returns g c =
    let b = c.args.between.now in
    let n = length c.args.plan.now.codes in
    sym (ap (list_any (has_work_for (before_of b) (after_of b) c.args.exchange)) (sym (take_all c.loop-index.index (range_with_len 0 n) (omega (arith, length-range_with_len 0 n)))) ∙ c.loop-index.invariant)
