use Rattle.tx_risk.proofs.Common.{◌≡◌, ◌+◌, ◌<◌, ◌∷◌, [], ◌∙◌, inl, inr, sym, ap, subst, length, length-append, arith, slice_get, ranks_of, net_of, at_push, certifies_code, IsOrder, IsByRank}
use Rattle.tx_risk.proofs.orders.orders_of.Goals as goal

pub order_of-requires-clause-certified : goal.order_of-requires-clause-certified
order_of-requires-clause-certified g c =
    let p = c.args.plan.now in
    let k = c.requires in
    let within : c.of.result < length p.codes =
    let t = c.loop-index-test.true in let e = c.codes-index-end.ensures.count in
    let at = c.of.ensures in omega arith in
    (k.0, k.1, certifies_code p (ranks_of c.args.ranks.now) k.0 k.1 k.2 c.of.result within)

pub loop-index-preserved : goal.loop-index-preserved
loop-index-preserved g c =
    let p = c.args.plan.now in
    let i = c.loop-index.invariant in
    let old = c.loop-index.orders.items in
    let order = c.in_ok-order_of.field-0 in
    let k = c.push_reserved.ensures in
    record {
      long = ap length k.items ∙ length-append old (order ∷ []) ∙ ap (λ n. n + 1) i.long;
      each = λ d e at. elim (at_push old order e d (ap (λ l. slice_get l d) (sym k.items) ∙ at)) [
        | inl m ↦ i.each d e m
        | inr m ↦
            subst (λ n. IsOrder (net_of p n) e.items × IsByRank (ranks_of c.args.ranks.now n) e.items)
            (c.of.ensures ∙ sym (m.0 ∙ i.long))
            (subst (λ f. IsOrder (net_of p c.of.result) f.items
            × IsByRank (ranks_of c.args.ranks.now c.of.result) f.items) (sym m.1)
            (c.in_ok-order_of.ensures.order, c.in_ok-order_of.ensures.by_rank))
      ];
      room = let r = i.room in let q = k.capacity in omega arith;
    }

pub returns : goal.returns
returns g c =
    let i = c.loop-index.invariant in
    let all : c.loop-index.index ≡ length c.args.plan.now.codes =
    let t = c.loop-index-test.false in let a = c.loop-index.auto.index-end in
    let e = c.codes-index-end.ensures.count in omega arith in
    record { long = i.long ∙ all; each = i.each }
