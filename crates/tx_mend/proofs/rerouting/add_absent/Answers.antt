use Rattle.tx_mend.proofs.Common.{◌≡◌, ℕ, ◌∙◌, ◌++◌, [], List, length, sym, ap, arith, list_any, flat_map, Route, ◌==◌, ◌&&◌, filter, route_list, nil_from_length, route_if, full_list, present_pairs, pairs_for, is_absent, absent_below, full_route}
use Rattle.std.proofs.lemmas.Bool.{eqb-true, eqb-false}
use Rattle.tx_mend.proofs.Adding.{is_absent_if, is_present_if, absent_fresh, absent_more, absent_same, absent_all}
use Rattle.tx_mend.proofs.rerouting.add_absent.Goals as goal
use Rattle.tx_mend.proofs.rerouting.add_absent.Goals.{then-is_empty+in_ok-add_route, else-is_empty}

pub add_route-requires : goal.add_route-requires
add_route-requires g c =
    let b = c.args.basis.now in
    let p = b.plan.now in
    let n = c.loop-index.index in
    let code = c.args.code in
    let e = c.of-exchange.ensures in
    let none = nil_from_length c.list.result.now (eqb-true (length c.list.result.now) 0 (sym c.is_empty.ensures ∙ c.if-is_empty.true)) in
    let empty : route_list p n code ≡ [] = sym (c.list.ensures.value ∙ ap (λ (y : ℕ). route_list p y code) e) ∙ none in
    ap (λ (y : ℕ). list_any (λ (r : Route). (r.exchange == y) && (r.code == code)) c.loop-index.routes) e ∙ ap (list_any (λ (r : Route). (r.exchange == n) && (r.code == code))) c.loop-index.invariant
    ∙ absent_fresh p c.exchanges-index-end.ensures.rules (full_list p b.limits.limit b.limits.spare) code n (is_absent_if p c.exchanges-index-end.ensures.rules n code empty)

pub loop-index-preserved : goal.loop-index-preserved
loop-index-preserved g c =
    let b = c.args.basis.now in
    let p = b.plan.now in
    let n = c.loop-index.index in
    let code = c.args.code in
    let e = c.of-exchange.ensures in
    let f = full_route p b.limits.limit b.limits.spare in
    let here = c.list.ensures.value ∙ ap (λ (y : ℕ). route_list p y code) e in
    elim c.if-is_empty.branch [
      | then-is_empty+in_ok-add_route w ↦ (
          let none = nil_from_length c.list.result.now (eqb-true (length c.list.result.now) 0 (sym c.is_empty.ensures ∙ w.if-is_empty.true)) in
          w.routes-is ∙ w.in_ok-add_route.ensures ∙ ap (λ (l : List ℕ). c.loop-index.routes ++ route_if (c.of-exchange.result, code) l) w.full_list-list.ensures
          ∙ ap (λ (y : ℕ). c.loop-index.routes ++ f (y, code)) e ∙ ap (λ (l : List Route). l ++ f (n, code)) c.loop-index.invariant
          ∙ sym (absent_more p c.exchanges-index-end.ensures.rules (full_list p b.limits.limit b.limits.spare) code n (is_absent_if p c.exchanges-index-end.ensures.rules n code (sym here ∙ none))))
      | else-is_empty w ↦ (
          let some = eqb-false (length c.list.result.now) 0 (sym c.is_empty.ensures ∙ w.if-is_empty.false) in
          w.routes-is ∙ c.loop-index.invariant ∙ sym (absent_same p c.exchanges-index-end.ensures.rules (full_list p b.limits.limit b.limits.spare) code n (is_present_if p c.exchanges-index-end.ensures.rules n code (λ k. some (ap length (here ∙ k))))))
    ]

pub returns : goal.returns
returns g c =
    let b = c.args.basis.now in
    let p = b.plan.now in
    let f = full_route p b.limits.limit b.limits.spare in
    let all : c.loop-index.index ≡ length p.exchanges = let t = c.loop-index-test.false in let a = c.loop-index.auto.index-end in let e = c.exchanges-index-end.ensures.count in omega arith in
    c.loop-index.invariant ∙ ap (λ (n : ℕ). flat_map f (present_pairs p ++ (absent_below p c.args.code ++ filter (is_absent p) (pairs_for n c.args.code)))) all ∙ absent_all p c.exchanges-index-end.ensures.rules (full_list p b.limits.limit b.limits.spare) c.args.code
