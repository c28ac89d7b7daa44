use Rattle.tx_risk.proofs.Common.{◌≡◌, ◌<◌, ◌∙◌, Some, sym, ap, subst, length, length-append, arith, slice_get, slice_get-get_or, ranks_of, net_of, risk_of, AreCutsBelow, AreCutsOfCode, Left, left_net, IsOrder, IsByRank, Adds, marked, AreEnds, TakesItsGroups}
use Rattle.tx_risk.proofs.Marking.{same_risk}
use Rattle.tx_risk.proofs.Ordering.{order_left}
use Rattle.tx_risk.proofs.Unhit.{takes}
use Rattle.tx_risk.proofs.AddedOutages.{codes_next}
use Rattle.tx_risk.proofs.outages.outcome_of.Goals as goal

pub add_cuts-requires-clause-order : goal.add_cuts-requires-clause-order
add_cuts-requires-clause-order g c =
    let p = c.args.plan.now in
    let orders = c.args.orders.now in
    let order = c.index-orders-index.result in
    let marks = c.deref-in-loop-index.result.now in
    let left : Left = record { plan = p; marks = marks; code = c.of.result } in
    let within : c.loop-index.index < length orders =
    let t = c.loop-index-test.true in let e = c.codes-index-end.ensures.count in
    let l = c.requires.orders.long in omega arith in
    let at = ap (slice_get orders) c.of.ensures
    ∙ slice_get-get_or orders c.loop-index.index order within
    ∙ ap (λ k. Some k) (sym c.index-orders-index.is) in
    subst (IsOrder (left_net left)) (sym c.deref-in-loop-index-2.ensures.value)
    (order_left (marked marks) (net_of p c.of.result) order.items
    (c.requires.orders.each c.of.result order at).0)

pub add_cuts-requires-clause-by_rank : goal.add_cuts-requires-clause-by_rank
add_cuts-requires-clause-by_rank g c =
    let orders = c.args.orders.now in
    let order = c.index-orders-index.result in
    let within : c.loop-index.index < length orders =
    let t = c.loop-index-test.true in let e = c.codes-index-end.ensures.count in
    let l = c.requires.orders.long in omega arith in
    let at = ap (slice_get orders) c.of.ensures
    ∙ slice_get-get_or orders c.loop-index.index order within
    ∙ ap (λ k. Some k) (sym c.index-orders-index.is) in
    subst (IsByRank (ranks_of c.args.ranks.now c.of.result)) (sym c.deref-in-loop-index-2.ensures.value)
    (c.requires.orders.each c.of.result order at).1

pub add_cuts-requires-clause-ends : goal.add_cuts-requires-clause-ends
add_cuts-requires-clause-ends g c =
    let p = c.args.plan.now in
    let gone = c.deref.ensures.value ∙ sym c.deref-in-loop-index.ensures.value in
    subst (AreEnds p (marked c.deref-in-loop-index.result.now) (length p.groups))
    (sym c.deref-in-loop-index-3.ensures.value)
    (subst (λ l. AreEnds p (marked l) (length p.groups) c.in_ok-ends.ends.items) gone
    c.in_ok-ends.ensures)

pub add_cuts-requires-clause-takes : goal.add_cuts-requires-clause-takes
add_cuts-requires-clause-takes g c =
    let p = c.args.plan.now in
    let o = c.args.outage in
    let risk = risk_of p c.args.risks.now o in
    let same : marked c.deref-in-loop-index.result.now ≡ risk =
    same_risk _ _ (λ h. ap (λ l. marked l h) c.deref-in-loop-index.ensures.value
    ∙ c.in_ok-gone.ensures h) in
    subst (λ r. TakesItsGroups p r o) (sym same) (takes p c.args.risks.now o)

pub loop-index-init : goal.loop-index-init
loop-index-init g c = record {
  below = c.new-cuts.ensures.items;
  few = let e = ap length c.new-legs.ensures.items in omega arith;
}

pub add_cuts-requires-clause-room : goal.add_cuts-requires-clause-room
add_cuts-requires-clause-room g c =
    let few = c.loop-index.invariant.few in
    let t = c.loop-index-test.true in
    let e = c.codes-index-end.ensures.count in
    let k = c.codes-index-end.ensures.few in
    omega arith

pub loop-index-preserved : goal.loop-index-preserved
loop-index-preserved g c =
    let p = c.args.plan.now in
    let o = c.args.outage in
    let risk = risk_of p c.args.risks.now o in
    let before = c.loop-index.legs.items in
    let legs = c.add_cuts.new.legs.items in
    let old = c.loop-index.cuts.items in
    let new = c.add_cuts.new.cuts.items in
    let same : marked c.deref-in-loop-index.result.now ≡ risk =
    same_risk _ _ (λ h. ap (λ l. marked l h) c.deref-in-loop-index.ensures.value
    ∙ c.in_ok-gone.ensures h) in
    let mine = subst (λ r. Adds (AreCutsOfCode p r o legs c.of.result) old new) same
    c.in_ok-add_cuts.ensures.cuts in
    let grown = c.in_ok-add_cuts.ensures.grown in
    record {
      below = codes_next p risk o c.loop-index.index before legs old new c.loop-index.invariant.below grown
          (subst (λ k. Adds (AreCutsOfCode p risk o legs k) old new) c.of.ensures mine);
      few =
          let long = ap length grown.added ∙ length-append before grown.more in
          let one = grown.few in
          let few = c.loop-index.invariant.few in
          omega arith;
    }

pub returns-clause-outcome : goal.returns-clause-outcome
returns-clause-outcome g c =
    let p = c.args.plan.now in
    let o = c.args.outage in
    let all : c.loop-index.index ≡ length p.codes =
    let t = c.loop-index-test.false in let a = c.loop-index.auto.index-end in
    let e = c.codes-index-end.ensures.count in omega arith in
    subst (λ k. AreCutsBelow p (risk_of p c.args.risks.now o) o c.loop-index.legs.items k c.loop-index.cuts.items) all
    c.loop-index.invariant.below
