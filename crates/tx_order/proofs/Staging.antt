-- A stage of an order that is asked for.
use Rattle.tx_order.proofs.Common.{◌≡◌, ℕ, ◌+◌, ◌-◌, sym, ◌∙◌, subst, arith, Plan, IsPlan, rerouted, AreCommon, Certificate, IsCertificateOf, ranks_of, Lists, Order, IsOrderKept, plan_before, AreListsOf}
use Rattle.std.specs.Prelude.{max}
use Rattle.tx_order.specs.Staged.{IsStageCert}
use Rattle.tx_order.proofs.Confirming.{before_rules, before_fits, with_lists}

-- the certificate of a stage, by its number from 0
pub stage_cert : (o : Order) → IsOrderKept o → (n : ℕ) (t : Certificate)
    → AreCommon (plan_before o (n - 1)) (plan_before o (n - 1 + 1)) (ranks_of t) o.transition.limit o.transition.spare
    → IsCertificateOf o.transition.old t → IsStageCert o n t
stage_cert o k n t common fits =
    let next : n - 1 + 1 ≡ max n 1 = omega arith in
    record {
      common = subst (λ (s : ℕ). AreCommon (plan_before o (n - 1)) (plan_before o s) (ranks_of t) o.transition.limit o.transition.spare) next common;
      fits = before_fits o k n t fits;
    }

module _ {A : Type 0} where
  -- the plan with the lists after a stage keeps the rules
  pub stage_rules : (o : Order) → IsOrderKept o → (n : ℕ) (l : Lists A) → AreListsOf (plan_before o n) l
      → IsPlan (rerouted o.transition.old l.routes l.bars)
  stage_rules o k n l h = subst IsPlan (sym (with_lists o n l h)) (before_rules o k n)

  -- it is the plan after the stage
  pub stage_plan : (o : Order) (n : ℕ) (l : Lists A) (p : Plan) → p ≡ rerouted o.transition.old l.routes l.bars
      → AreListsOf (plan_before o n) l → p ≡ plan_before o n
  stage_plan o n l p same h = same ∙ with_lists o n l h
