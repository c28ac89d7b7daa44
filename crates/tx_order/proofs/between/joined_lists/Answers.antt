use Rattle.tx_order.proofs.Common.{◌≡◌, ◌+◌, ◌&&◌, Bool, List, length, sym, ap, subst, ◌∙◌, arith, is_barred, plan_front}
use Rattle.tx_change.specs.inner.Joined.{Joined, joined_of, joined_at}
use Rattle.tx_change.proofs.JoinedNets.{AreJoinedBelow, joined_next}
use Rattle.tx_order.proofs.between.joined_lists.Goals as goal
use Rattle.tx_order.proofs.between.joined_lists.Goals.{then-is_barred, else-is_barred}

pub loop-index-preserved : goal.loop-index-preserved
loop-index-preserved g c =
    let w = c.args.transition.now in
    let from = c.args.from in
    let to = c.args.to in
    let code = c.args.code in
    let x = c.of-exchange.result in
    let barred : c.if-is_barred.barred ≡ (is_barred (plan_front w from) x code && is_barred (plan_front w to) x code) = elim c.if-is_barred.branch [
      | then-is_barred w ↦
          let here = sym c.is_barred.ensures ∙ w.if-is_barred.true in
          w.barred-is ∙ (w.is_barred-barred.ensures ∙ sym (ap (λ (b : Bool). b && is_barred (plan_front c.args.transition.now to) x code) here))
      | else-is_barred w ↦
          let here = sym c.is_barred.ensures ∙ w.if-is_barred.false in
          w.barred-is ∙ (w.if-is_barred.false ∙ sym (ap (λ (b : Bool). b && is_barred (plan_front c.args.transition.now to) x code) here))
    ] in
    let is = c.in_ok-of.ensures ∙ ((λ i. joined_of (c.list-before.ensures i) (c.list-after.ensures i) (barred i)) ∙ ap (joined_at (plan_front w from) (plan_front w to) code) c.of-exchange.ensures) in
    subst (λ (l : List Joined). AreJoinedBelow (plan_front w from) (plan_front w to) code (c.loop-index.index + 1) l) (sym c.in_ok-push.ensures.items)
    (joined_next (plan_front w from) (plan_front w to) code c.loop-index.index c.loop-index.lists.items c.in_ok-of.field-0 c.loop-index.invariant is)

pub returns : goal.returns
returns g c =
    let all : c.loop-index.index ≡ length c.args.transition.now.old.exchanges = let t = c.loop-index-test.false in let a = c.loop-index.auto.index-end in let e = c.exchanges-index-end.ensures.count in omega arith in
    record { long = c.loop-index.invariant.long ∙ all; each = c.loop-index.invariant.each }
