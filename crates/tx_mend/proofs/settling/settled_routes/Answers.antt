use Rattle.tx_mend.proofs.Common.{◌∙◌, List, ℕ, ap, sym, refl, arith, slice_get, list_any, Route, entry_at, settled_list}
use Rattle.tx_plan.proofs.Copied.{pair_of, no_none, none_before, route_got}
use Rattle.tx_mend.proofs.SettledLists.{none_settled, settled_next}
use Rattle.tx_mend.proofs.settling.settled_routes.Goals as goal

pub add_route-requires : goal.add_route-requires
add_route-requires g c =
    let p = c.args.plan.now in
    let settled : Route → List ℕ = λ r. settled_list c.args.before.now c.args.cert.now r.exchange r.code r.groups in
    let at = route_got p c.routes-index-end.ensures.rules c.loop-index.index _ c.in-Some.ensures.value _ refl in
    ap (list_any _) c.loop-index.invariant
    ∙ none_settled _ _ settled _
    (none_before (λ (r : Route). r.exchange) (λ (r : Route). r.code) p.routes c.loop-index.index _ c.routes-index-end.ensures.rules.routes_differ at)

pub unreachable-requires : goal.unreachable-requires
unreachable-requires g c =
    let p = c.args.plan.now in
    let t = c.loop-index-test.true in
    let n = c.routes-index-end.ensures.count in
    let e = entry_at p.routes c.loop-index.index (omega arith) in
    no_none pair_of (slice_get p.routes c.loop-index.index) e.0 e.1 (sym c.in-None.is ∙ c.route_at.ensures.value)

pub loop-index-preserved : goal.loop-index-preserved
loop-index-preserved g c =
    let p = c.args.plan.now in
    let settled : Route → List ℕ = λ r. settled_list c.args.before.now c.args.cert.now r.exchange r.code r.groups in
    let at = route_got p c.routes-index-end.ensures.rules c.loop-index.index _ c.in-Some.ensures.value _ refl in
    settled_next settled p.routes c.loop-index.index _ at c.loop-index.routes c.add_route.new.routes _ c.loop-index.invariant c.in_ok-add_route-in-Some.ensures c.settled_list-list.ensures
