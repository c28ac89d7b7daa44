use Rattle.tx_join.proofs.Common.{ℕ, ◌∙◌, sym, subst, refl, exits_with, Plan, IsPlan, NoMemory, joined_network, plan_over}
use Rattle.tx_join.proofs.TheirLists.{after_rules}
use Rattle.tx_join.proofs.joining.new_over.Goals as goal

pub joined_network-requires : goal.joined_network-requires
joined_network-requires g c = c.requires

pub plan_over-requires : goal.plan_over-requires
plan_over-requires g c =
    let old = c.args.old.now in
    let new = c.args.new.now in
    subst (λ (j : Plan). IsPlan (plan_over j new old c.codes.result)) (sym c.in_ok-network.ensures.plan)
    (subst (λ (n : ℕ). IsPlan (plan_over (joined_network old new) new old n)) (sym c.codes.ensures.count) (after_rules old new c.requires))

pub returns-clause-plan : goal.returns-clause-plan
returns-clause-plan g c =
    c.in_ok-plan_over.ensures ∙ (λ i. plan_over (c.in_ok-network.ensures.plan i) c.args.new.now c.args.old.now (c.codes.ensures.count i))

pub returns-in_err-network-clause-memory : goal.returns-in_err-network-clause-memory
returns-in_err-network-clause-memory g c =
    rw (exits_with c.from_residual.result c.in_err-network.field-0.0 c.from_residual.ensures.1) c.in_err-network.ensures.memory

pub returns-in_err-plan_over-clause-memory : goal.returns-in_err-plan_over-clause-memory
returns-in_err-plan_over-clause-memory g c =
    rw (exits_with c.from_residual-in_err-plan_over.result NoMemory c.from_residual-in_err-plan_over.ensures.1) refl
