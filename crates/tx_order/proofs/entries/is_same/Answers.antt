use Rattle.tx_order.proofs.Common.{◌≡◌, ℕ, ◌<◌, Bool, true, false, not, length, inl, inr, refl, sym, subst, ◌∙◌, arith, cases_lt, route_list, is_barred, Transition, plan_front}
use mathlib.Core.Bool.{beq}
use Rattle.tx_order.proofs.Same.{alike_all}
use Rattle.tx_order.proofs.TwoFronts.{rules_with, network_with}
use Rattle.tx_order.proofs.entries.is_same.Goals as goal

both_same : (a b : Bool) → not (beq a b) ≡ false → a ≡ b
both_same true true h = refl
both_same true false h = let z : ⊥ = cc in absurd z
both_same false true h = let z : ⊥ = cc in absurd z
both_same false false h = refl

-- an exchange has the same list and the same bar at both fronts
abbrev AreSameAt : Transition → (from to c x : ℕ) → Type 0
AreSameAt w from to c x = (route_list (plan_front w from) x c ≡ route_list (plan_front w to) x c) × (is_barred (plan_front w from) x c ≡ is_barred (plan_front w to) x c)

pub loop-index-preserved : goal.loop-index-preserved
loop-index-preserved g c = λ y h.
    let w = c.args.transition.now in
    let lists = c.is_same_list.ensures.0 c.if-not-is_same_list.false in
    let bars = sym c.is_barred-barred.ensures ∙ (both_same c.is_barred-barred.result c.is_barred.result c.if-barred-is_barred.false ∙ c.is_barred.ensures) in
    let here : AreSameAt w c.args.from c.args.to c.args.code c.of-exchange.result = (lists, bars) in
    elim (cases_lt y c.loop-index.index) [
      | inl l ↦ c.loop-index.invariant y l
      | inr l ↦
          let e = c.of-exchange.ensures in
          let at : c.of-exchange.result ≡ y = omega arith in
          subst (AreSameAt w c.args.from c.args.to c.args.code) at here
    ]

pub returns : goal.returns
returns g c =
    let w = c.args.transition.now in
    let from = c.args.from in
    let to = c.args.to in
    let count = c.exchanges-index-end.ensures.count in
    let end = c.loop-index-test.false in (
      λ _. alike_all (plan_front w from) (plan_front w to) c.args.code (rules_with w c.rules.ensures (λ _. from)) (rules_with w c.rules.ensures (λ _. to)) (network_with w c.rules.ensures (λ _. from) (λ _. to))
          (λ x (h : x < length w.old.exchanges). c.loop-index.invariant x (omega arith)),
      λ _. refl,
    )
