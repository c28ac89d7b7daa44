use Rattle.tx_order.proofs.Common.{◌≡◌, ℕ, inl, inr, subst, ◌∙◌, arith, cases_lt, Order, HasCleared}
use Rattle.tx_order.proofs.switching.confirm_stages.Goals as goal

pub loop-stage-preserved : goal.loop-stage-preserved
loop-stage-preserved g c =
    let i = c.loop-stage.invariant in
    record {
      same = c.confirm_stage-order.ensures.same ∙ i.same;
      cleared = λ s h. elim (cases_lt s c.loop-stage.stage) [
        | inl l ↦ i.cleared s l
        | inr l ↦
            let e : c.loop-stage.stage ≡ s = omega arith in
            subst (λ (o : Order). HasCleared o s) i.same (subst (λ (k : ℕ). HasCleared c.loop-stage.order k) e c.confirm_stage-order.ensures.cleared)
      ];
    }

pub returns-clause-cleared : goal.returns-clause-cleared
returns-clause-cleared g c = λ s h.
    let e = c.stages-stage-end.ensures in
    let t = c.loop-stage-test.false in
    c.loop-stage.invariant.cleared s (omega arith)
