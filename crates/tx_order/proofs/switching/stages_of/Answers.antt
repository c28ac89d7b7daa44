use Rattle.tx_order.proofs.Common.{◌≡◌, ℕ, ◌+◌, Bool, List, length, sym, subst, arith, Plan, AreOrigins, AreAllStages, AreStagesBelow}
use Rattle.tx_order.proofs.Ordered.{no_stages, stages_more}
use Rattle.tx_order.proofs.switching.stages_of.Goals as goal

pub loop-index-init : goal.loop-index-init
loop-index-init g c = subst (λ (codes : List (List ℕ)). AreStagesBelow c.args.transition.now 0 codes) (sym c.new-ends.ensures.items) (no_stages c.args.transition.now)

pub stages_of_code-requires-clause-origins : goal.stages_of_code-requires-clause-origins
stages_of_code-requires-clause-origins g c =
    let w = c.args.transition.now in
    subst (λ (l : List Bool). AreOrigins w.old l) (sym c.deref.ensures.value) (subst (λ (p : Plan). AreOrigins p c.in_ok-origins.origins.items) c.old_plan.ensures c.in_ok-origins.ensures)

pub loop-index-preserved : goal.loop-index-preserved
loop-index-preserved g c =
    let w = c.args.transition.now in
    subst (λ (codes : List (List ℕ)). AreStagesBelow w (c.loop-index.index + 1) codes) (sym c.in_ok-push.ensures.items)
    (stages_more w c.loop-index.index c.loop-index.ends.items _ c.loop-index.invariant
    (subst (λ (k : ℕ). AreAllStages w k c.in_ok-stages_of_code.field-0) c.of-code.ensures c.in_ok-stages_of_code.ensures))

pub returns : goal.returns
returns g c =
    let w = c.args.transition.now in
    let all : c.loop-index.index ≡ length w.old.codes = let t = c.loop-index-test.false in let a = c.loop-index.auto.index-end in let e = c.codes-index-end.ensures.count in omega arith in
    subst (λ (n : ℕ). AreStagesBelow w n c.loop-index.ends.items) all c.loop-index.invariant
