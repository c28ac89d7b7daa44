use Rattle.tx_join.proofs.Common.{◌≡◌, ◌==◌, ◌&&◌, ◌++◌, ◌∷◌, [], false, ◌∙◌, refl, sym, ap, subst, arith, length, append-nil, slice_get, list_any, length-map-range_with_len, Pair, Route, entry_at, group_in, route_got, no_none}
use Rattle.tx_join.proofs.NextTaken.{route_next, route_left, route_free, routes_taken}
use Rattle.tx_join.proofs.over.add_routes.Goals as goal
use Rattle.tx_join.proofs.over.add_routes.Goals.{then-takes+in_ok-add-in-Some, else-takes}

pub loop-index-init : goal.loop-index-init
loop-index-init g c = sym (append-nil _)

pub add-requires : goal.add-requires
add-requires g c =
    let from = c.args.from.now in
    let at = route_got from c.routes-index-end.ensures.rules c.loop-index.index _ c.in-Some.ensures.value _ refl in
    subst (λ (q : Pair). list_any (λ (r : Route). (r.exchange == q.exchange) && (r.code == q.code)) c.loop-index.routes ≡ false) (sym c.pair_in-pair.ensures)
    (route_free c.args.network.now c.args.own.now from c.args.whole c.args.routes.now c.loop-index.routes c.loop-index.index _ at c.loop-index.invariant c.requires (sym c.takes.ensures ∙ c.if-takes.true))

pub unreachable-requires : goal.unreachable-requires
unreachable-requires g c =
    let p = c.args.from.now in
    let t = c.loop-index-test.true in
    let n = c.routes-index-end.ensures.count in
    let e = entry_at p.routes c.loop-index.index (omega arith) in
    no_none (λ (r : Route). (r.exchange, r.code)) (slice_get p.routes c.loop-index.index) e.0 e.1 (sym c.in-None.is ∙ c.route_at.ensures.value)

pub list_in-requires : goal.list_in-requires
list_in-requires g c = ap length (c.deref.ensures.value ∙ c.in_ok-groups.ensures) ∙ length-map-range_with_len (group_in c.args.network.now c.args.from.now) 0 (length c.args.from.now.groups)

pub loop-index-preserved : goal.loop-index-preserved
loop-index-preserved g c =
    let from = c.args.from.now in
    let at = route_got from c.routes-index-end.ensures.rules c.loop-index.index _ c.in-Some.ensures.value _ refl in
    elim c.if-takes.branch [
      | then-takes+in_ok-add-in-Some w ↦
          let list = w.list_in.ensures c.args.network.now (w.deref.ensures.value ∙ c.in_ok-groups.ensures) in
          route_next c.args.network.now c.args.own.now from c.args.whole c.args.routes.now c.loop-index.routes c.loop-index.index _ at c.loop-index.invariant _ (sym c.takes.ensures ∙ w.if-takes.true)
          (w.routes-is ∙ w.in_ok-add-in-Some.ensures.ok ∙ (λ i. c.loop-index.routes ++ record { exchange = (w.pair_in-pair.ensures i).exchange; code = (w.pair_in-pair.ensures i).code; groups = list i } ∷ []))
      | else-takes w ↦ route_left c.args.network.now c.args.own.now from c.args.whole c.args.routes.now c.loop-index.routes c.loop-index.index _ at c.loop-index.invariant _ (sym c.takes.ensures ∙ w.if-takes.false) w.routes-is
    ]

pub returns : goal.returns
returns g c =
    let t = c.loop-index-test.false in
    let a = c.loop-index.auto.index-end in
    let n = c.routes-index-end.ensures.count in
    routes_taken c.args.network.now c.args.own.now c.args.from.now c.args.whole c.args.routes.now c.loop-index.routes c.loop-index.index (omega arith) c.loop-index.invariant
