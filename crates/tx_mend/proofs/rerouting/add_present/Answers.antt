use Rattle.tx_mend.proofs.Common.{ℕ, ◌∙◌, ◌++◌, List, sym, ap, arith, list_any, Route, ◌==◌, ◌&&◌, slice_get, entry_at, route_if, full_list, full_route, pair_of, no_none}
use Rattle.tx_mend.proofs.Adding.{present_within, present_fresh, present_more}
use Rattle.tx_mend.proofs.rerouting.add_present.Goals as goal

pub add_route-requires : goal.add_route-requires
add_route-requires g c =
    let b = c.args.basis.now in
    let p = b.plan.now in
    let k = c.in-Some.pair in
    ap (list_any (λ (r : Route). (r.exchange == k.0) && (r.code == k.1))) c.loop-index.invariant ∙ present_fresh p c.routes-index-end.ensures.rules c.loop-index.index k (sym c.in-Some.is ∙ c.route_at.ensures.value) (full_list p b.limits.limit b.limits.spare)

pub full_list-list-requires-clause-code : goal.full_list-list-requires-clause-code
full_list-list-requires-clause-code g c = (present_within c.args.basis.now.plan.now c.routes-index-end.ensures.rules c.loop-index.index c.in-Some.pair (sym c.in-Some.is ∙ c.route_at.ensures.value)).1

pub full_list-list-requires-clause-exchange : goal.full_list-list-requires-clause-exchange
full_list-list-requires-clause-exchange g c = (present_within c.args.basis.now.plan.now c.routes-index-end.ensures.rules c.loop-index.index c.in-Some.pair (sym c.in-Some.is ∙ c.route_at.ensures.value)).0

pub unreachable-requires : goal.unreachable-requires
unreachable-requires g c =
    let p = c.args.basis.now.plan.now in
    let t = c.loop-index-test.true in
    let n = c.routes-index-end.ensures.count in
    let e = entry_at p.routes c.loop-index.index (omega arith) in
    no_none pair_of (slice_get p.routes c.loop-index.index) e.0 e.1 (sym c.in-None.is ∙ c.route_at.ensures.value)

pub loop-index-preserved : goal.loop-index-preserved
loop-index-preserved g c =
    let b = c.args.basis.now in
    let p = b.plan.now in
    let k = c.in-Some.pair in
    let f = full_route p b.limits.limit b.limits.spare in
    c.in_ok-add_route-in-Some.ensures ∙ ap (λ (l : List ℕ). c.loop-index.routes ++ route_if k l) c.full_list-list.ensures ∙ ap (λ (l : List Route). l ++ f k) c.loop-index.invariant ∙ sym (present_more p c.routes-index-end.ensures.rules c.loop-index.index k (sym c.in-Some.is ∙ c.route_at.ensures.value) (full_list p b.limits.limit b.limits.spare))
