use Rattle.tx_plan.proofs.Common.{◌∙◌, ap, sym, arith, slice_get, list_any, Route}
use Rattle.tx_plan.proofs.ByIndex.{entry_at}
use Rattle.tx_plan.proofs.Copied.{pair_of, no_none, none_before, copied_next, route_got}
use Rattle.tx_plan.proofs.copying.routes_of.Goals as goal

pub add-requires : goal.add-requires
add-requires g c =
    let p = c.args.plan.now in
    let at = route_got p c.routes-index-end.ensures.rules c.loop-index.index _ c.in-Some.ensures.value c.group_list-list.result.items c.group_list-list.ensures in
    ap (list_any _) c.loop-index.invariant
    ∙ none_before (λ (r : Route). r.exchange) (λ (r : Route). r.code) p.routes c.loop-index.index _ c.routes-index-end.ensures.rules.routes_differ at

pub unreachable-requires : goal.unreachable-requires
unreachable-requires g c =
    let p = c.args.plan.now in
    let t = c.loop-index-test.true in
    let n = c.routes-index-end.ensures.count in
    let e = entry_at p.routes c.loop-index.index (omega arith) in
    no_none pair_of (slice_get p.routes c.loop-index.index) e.0 e.1 (sym c.in-None.is ∙ c.route_at.ensures.value)

pub loop-index-preserved : goal.loop-index-preserved
loop-index-preserved g c =
    let p = c.args.plan.now in
    let at = route_got p c.routes-index-end.ensures.rules c.loop-index.index _ c.in-Some.ensures.value c.group_list-list.result.items c.group_list-list.ensures in
    copied_next p.routes c.loop-index.index _ at c.loop-index.routes c.add.new.self c.loop-index.invariant c.in_ok-add-in-Some.ensures.ok
