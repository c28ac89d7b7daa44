use Rattle.tx_risk.proofs.Common.{◌≡◌, ◌==◌, true, ◌∷◌, [], inl, refl, sym, subst, ap, ◌∙◌, eqb-true, list_any, Among, among_left, among_right, any_mem}
use Rattle.tx_risk.proofs.hits.add_end.Goals as goal

pub returns-then-has_end-clause-added : goal.returns-then-has_end-clause-added
returns-then-has_end-clause-added g c =
    let items = c.args.ends.now.items in
    let x = c.args.exchange in
    let t : list_any (λ y. y == x) items ≡ true =
    ap (list_any (λ y. y == x)) (sym c.deref.ensures.value) ∙ sym c.has_end.ensures
    ∙ c.if-has_end.true in
    let m = any_mem (λ y. y == x) items t in
    subst (λ y. Among y items) (eqb-true m.0 x m.2) m.1

pub returns-clause-stays : goal.returns-clause-stays
returns-clause-stays g c = λ x m.
    subst (Among x) (sym c.in_ok-push.ensures.items)
    (among_left x c.args.ends.now.items (c.args.exchange ∷ []) m)

pub returns-clause-added : goal.returns-clause-added
returns-clause-added g c =
    let x = c.args.exchange in
    subst (Among x) (sym c.in_ok-push.ensures.items)
    (among_right x c.args.ends.now.items (x ∷ []) (inl refl))
