use Rattle.tx_order.proofs.Common.{◌≡◌, ℕ, ◌+◌, sym, ap, subst, ◌∙◌, Plan, IsPlan, rerouted, same_back, Certificate, IsCertificateOf, IsConfirmed, Lists, Transition, Order, plan_before, AreListsOf}
use Rattle.tx_order.proofs.Confirming.{before_rules, before_network, before_fits, stage_cleared, with_lists, with_own}
use Rattle.tx_order.proofs.switching.confirm_stage.Goals as goal

-- a plan of the network with the lists of a plan on the way is that plan
module _ {A : Type 0} (o : Order) (s : ℕ) (l : Lists A) (lists : AreListsOf (plan_before o s) l) where
  first_is : (p : Plan) → p ≡ o.transition.old → rerouted p l.routes l.bars ≡ plan_before o s
  first_is p old = (λ i. rerouted (old i) l.routes l.bars) ∙ with_lists o s l lists

  next_is : (p : Plan) (before : ℕ) → p ≡ plan_before o before → rerouted p l.routes l.bars ≡ plan_before o s
  next_is p before is = (λ i. rerouted (is i) l.routes l.bars) ∙ with_lists o s l lists

confirmed_for : (p q : Plan) (t : Certificate) (l m j k : ℕ) → p ≡ q → l ≡ m → j ≡ k → IsConfirmed p t l j → IsConfirmed q t m k
confirmed_for p q t l m j k a b d h = subst (λ (p : Plan). IsConfirmed p t m k) a (subst (λ (l : ℕ). IsConfirmed p t l k) b (subst (λ (j : ℕ). IsConfirmed p t l j) d h))

pub rerouted-plan-requires : goal.rerouted-plan-requires
rerouted-plan-requires g c =
    let o = c.args.order in
    let old = ap (λ (w : Transition). w.old) c.transition.view_is ∙ ap (λ (o : Order). o.transition.old) c.order.view_is in
    subst IsPlan (sym (first_is o c.args.stage c.args.asked.before c.requires.before c.transition.inside.old old)) (before_rules o c.rules.ensures.kept c.args.stage)

pub confirm-requires-clause-fits : goal.confirm-requires-clause-fits
confirm-requires-clause-fits g c =
    let o = c.args.order in
    let old = ap (λ (w : Transition). w.old) c.transition.view_is ∙ ap (λ (o : Order). o.transition.old) c.order.view_is in
    let is = c.rerouted-plan.ensures ∙ first_is o c.args.stage c.args.asked.before c.requires.before c.transition.inside.old old in
    subst (λ (p : Plan). IsCertificateOf p c.args.asked.cert) (sym is) (before_fits o c.rules.ensures.kept c.args.stage c.args.asked.cert c.requires.fits)

pub rerouted-plan-requires-2 : goal.rerouted-plan-requires-2
rerouted-plan-requires-2 g c =
    let o = c.args.order in
    let old = ap (λ (w : Transition). w.old) c.transition.view_is ∙ ap (λ (o : Order). o.transition.old) c.order.view_is in
    let is = c.rerouted-plan.ensures ∙ first_is o c.args.stage c.args.asked.before c.requires.before c.transition.inside.old old in
    subst IsPlan (sym (next_is o (c.args.stage + 1) c.args.asked.after c.requires.after c.rerouted-plan.result c.args.stage is)) (before_rules o c.rules.ensures.kept (c.args.stage + 1))

pub confirm-requires-2-clause-fits : goal.confirm-requires-2-clause-fits
confirm-requires-2-clause-fits g c =
    let o = c.args.order in
    let old = ap (λ (w : Transition). w.old) c.transition.view_is ∙ ap (λ (o : Order). o.transition.old) c.order.view_is in
    let is = c.rerouted-plan.ensures ∙ first_is o c.args.stage c.args.asked.before c.requires.before c.transition.inside.old old in
    let after = c.rerouted-plan-2.ensures ∙ next_is o (c.args.stage + 1) c.args.asked.after c.requires.after c.rerouted-plan.result c.args.stage is in
    subst (λ (p : Plan). IsCertificateOf p c.args.asked.cert) (sym after) (before_fits o c.rules.ensures.kept (c.args.stage + 1) c.args.asked.cert c.requires.fits)

pub returns-clause-same : goal.returns-clause-same
returns-clause-same g c =
    let o = c.args.order in
    let kept = c.rules.ensures.kept in
    let own = c.args.asked.old in
    let next = c.args.stage + 1 in
    let old = ap (λ (w : Transition). w.old) c.transition.view_is ∙ ap (λ (o : Order). o.transition.old) c.order.view_is in
    let is = c.rerouted-plan.ensures ∙ first_is o c.args.stage c.args.asked.before c.requires.before c.transition.inside.old old in
    let after = c.rerouted-plan-2.ensures ∙ next_is o next c.args.asked.after c.requires.after c.rerouted-plan.result c.args.stage is in
    let back = c.rerouted-old.ensures ∙ ((λ i. rerouted (after i) own.routes own.bars) ∙ with_own o (plan_before o next) own (same_back o.transition.old (plan_before o next) (before_network o kept next)) c.requires.old) in
    let inside = c.transition.inside in
    let with_old : Plan → Order = λ p. record {
      transition = record { old = p; new = inside.new; before = inside.before; after = inside.after; limit = inside.limits.limit; spare = inside.limits.spare };
      codes = c.order.inside.ends.items;
    } in
    let with_transition : Transition → Order = λ w. record { transition = w; codes = c.order.inside.ends.items } in
    ap with_old (back ∙ sym old) ∙ (ap with_transition c.transition.view_is ∙ c.order.view_is)

pub returns-clause-cleared : goal.returns-clause-cleared
returns-clause-cleared g c =
    let o = c.args.order in
    let cert = c.args.asked.cert in
    let next = c.args.stage + 1 in
    let old = ap (λ (w : Transition). w.old) c.transition.view_is ∙ ap (λ (o : Order). o.transition.old) c.order.view_is in
    let limit = ap (λ (w : Transition). w.limit) c.transition.view_is ∙ ap (λ (o : Order). o.transition.limit) c.order.view_is in
    let spare = ap (λ (w : Transition). w.spare) c.transition.view_is ∙ ap (λ (o : Order). o.transition.spare) c.order.view_is in
    let is = c.rerouted-plan.ensures ∙ first_is o c.args.stage c.args.asked.before c.requires.before c.transition.inside.old old in
    let after = c.rerouted-plan-2.ensures ∙ next_is o next c.args.asked.after c.requires.after c.rerouted-plan.result c.args.stage is in
    stage_cleared o c.rules.ensures.kept c.args.stage cert c.requires.common
    (confirmed_for _ (plan_before o c.args.stage) cert _ o.transition.limit _ o.transition.spare is limit spare c.confirm.ensures)
    (confirmed_for _ (plan_before o next) cert _ o.transition.limit _ o.transition.spare after limit spare c.confirm-2.ensures)
