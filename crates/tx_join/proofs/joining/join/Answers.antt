use Rattle.tx_join.proofs.Common.{sym, subst, inl, inr, exits_with, Plan, joined_old, AreOverBoth, HaveTheirLists}
use Rattle.tx_join.proofs.TheirLists.{over_both, their_lists}
use Rattle.tx_join.proofs.joining.join.Goals as goal

pub old_over-requires : goal.old_over-requires
old_over-requires g c = record { old_rules = c.rules.ensures; new_rules = c.rules-2.ensures; unrefused = sym c.in_default.ensures }

pub new_over-requires : goal.new_over-requires
new_over-requires g c = record { old_rules = c.rules.ensures; new_rules = c.rules-2.ensures; unrefused = sym c.in_default.ensures }

pub returns-clause-network : goal.returns-clause-network
returns-clause-network g c =
    let old = c.args.old.now in
    let new = c.args.new.now in
    subst (λ (p : Plan). AreOverBoth old new p c.in_ok-after.after) (sym c.in_ok-before.ensures.plan)
    (subst (λ (q : Plan). AreOverBoth old new (joined_old old new) q) (sym c.in_ok-after.ensures.plan)
    (over_both old new (record { old_rules = c.rules.ensures; new_rules = c.rules-2.ensures; unrefused = sym c.in_default.ensures })))

pub returns-clause-lists : goal.returns-clause-lists
returns-clause-lists g c =
    let old = c.args.old.now in
    let new = c.args.new.now in
    subst (λ (p : Plan). HaveTheirLists old new p c.in_ok-after.after) (sym c.in_ok-before.ensures.plan)
    (subst (λ (q : Plan). HaveTheirLists old new (joined_old old new) q) (sym c.in_ok-after.ensures.plan)
    (their_lists old new (record { old_rules = c.rules.ensures; new_rules = c.rules-2.ensures; unrefused = sym c.in_default.ensures })))

pub returns-clause-unrefused : goal.returns-clause-unrefused
returns-clause-unrefused g c = sym c.in_default.ensures

pub returns-in-Some-clause-refused : goal.returns-in-Some-clause-refused
returns-in-Some-clause-refused g c = inl (sym c.in-Some.ensures)

pub returns-in_err-before-clause-refused : goal.returns-in_err-before-clause-refused
returns-in_err-before-clause-refused g c =
    rw (exits_with c.from_residual.result c.in_err-before.field-0.0 c.from_residual.ensures.1) (inr (sym c.in_default.ensures, c.in_err-before.ensures.memory))

pub returns-in_err-after-clause-refused : goal.returns-in_err-after-clause-refused
returns-in_err-after-clause-refused g c =
    rw (exits_with c.from_residual-in_err-after.result c.in_err-after.field-0.0 c.from_residual-in_err-after.ensures.1) (inr (sym c.in_default.ensures, c.in_err-after.ensures.memory))
