use Rattle.tx_plan.proofs.Common.{◌∙◌, ap, sym, arith, slice_get, list_any, Pair}
use Rattle.tx_plan.proofs.ByIndex.{entry_at}
use Rattle.tx_plan.proofs.Copied.{no_none, none_before, copied_next, bar_got}
use Rattle.tx_plan.proofs.copying.bars_of.Goals as goal

pub add-requires : goal.add-requires
add-requires g c =
    let p = c.args.plan.now in
    let at = bar_got p.bars c.loop-index.index _ c.in-Some.ensures in
    ap (list_any _) c.loop-index.invariant
    ∙ none_before (λ (b : Pair). b.exchange) (λ (b : Pair). b.code) p.bars c.loop-index.index _ c.bars-index-end.ensures.rules.bars_differ at

pub unreachable-requires : goal.unreachable-requires
unreachable-requires g c =
    let p = c.args.plan.now in
    let t = c.loop-index-test.true in
    let n = c.bars-index-end.ensures.count in
    let e = entry_at p.bars c.loop-index.index (omega arith) in
    no_none (λ (b : Pair). (b.exchange, b.code)) (slice_get p.bars c.loop-index.index) e.0 e.1 (sym c.in-None.is ∙ c.bar_at.ensures)

pub loop-index-preserved : goal.loop-index-preserved
loop-index-preserved g c =
    let p = c.args.plan.now in
    let at = bar_got p.bars c.loop-index.index _ c.in-Some.ensures in
    copied_next p.bars c.loop-index.index _ at c.loop-index.bars c.add.new.self c.loop-index.invariant c.in_ok-add-in-Some.ensures.ok
