use Rattle.tx_down.proofs.Common.{◌≡◌, ◌==◌, ◌∙◌, List, ℕ, true, false, not, ap, sym, arith, take, map, length, refl, rules, slice_get, list_any, Route, entry_at, route_over}
use Rattle.tx_plan.proofs.Copied.{pair_of, no_none, none_before, none_filtered, route_got}
use Rattle.tx_down.proofs.Rules.{has_some}
use Rattle.tx_down.proofs.NextRoute.{route_next, route_gone, none_over}
use Rattle.tx_down.proofs.without.routes_over.Goals as goal
use Rattle.tx_down.proofs.without.routes_over.Goals.{then-not-is_empty+in_ok-add-in-Some, else-not-is_empty}

pub unreachable-requires : goal.unreachable-requires
unreachable-requires g c =
    let p = c.args.plan.now in
    let t = c.loop-index-test.true in
    let n = c.routes-index-end.ensures.count in
    let e = entry_at p.routes c.loop-index.index (omega arith) in
    no_none pair_of (slice_get p.routes c.loop-index.index) e.0 e.1
    (sym c.in-None.is ∙ c.route_at.ensures.value)

pub add-requires : goal.add-requires
add-requires g c =
    let p = c.args.plan.now in
    let net = c.args.network.now in
    let before = take c.loop-index.index p.routes in
    let rules = c.routes-index-end.ensures.rules in
    let at = route_got p rules c.loop-index.index _ c.in-Some.ensures.value _ refl in
    ap (list_any _) c.loop-index.invariant
    ∙ none_filtered _ has_some (map (route_over net p) before) (none_over net p _ _ before
    (none_before (λ (r : Route). r.exchange) (λ (r : Route). r.code) p.routes c.loop-index.index _
    rules.routes_differ at))

pub loop-index-preserved : goal.loop-index-preserved
loop-index-preserved g c =
    let p = c.args.plan.now in
    let net = c.args.network.now in
    let at = route_got p c.routes-index-end.ensures.rules c.loop-index.index _
    c.in-Some.ensures.value _ refl in
    let list = c.list_over-list.result.items in
    let any = ap (λ (gs : List ℕ). not (length gs == 0)) (sym c.list_over-list.ensures) in
    elim c.if-not-is_empty.branch [
      | then-not-is_empty+in_ok-add-in-Some w ↦ (
          let some : (length list == 0) ≡ false = search rules in
          route_next net p p.routes c.loop-index.routes _ c.loop-index.index _ at list
          c.list_over-list.ensures (any ∙ ap not some) c.loop-index.invariant
          (w.routes-is ∙ w.in_ok-add-in-Some.ensures.ok))
      | else-not-is_empty w ↦ (
          let none : (length list == 0) ≡ true = search rules in
          route_gone net p p.routes c.loop-index.routes _ c.loop-index.index _ at
          (any ∙ ap not none) c.loop-index.invariant w.routes-is)
    ]
