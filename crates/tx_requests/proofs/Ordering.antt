-- What is known of the answer of an order.
use Rattle.tx_requests.proofs.Common.{◌≡◌, ℕ, Option, Some, Ok, subst, Plan, IsPlan, TwoPlans, AreJoined}
use Rattle.tx_order.specs.declared.judging.OrderVerdict.{OrderVerdict}
use Rattle.tx_order.specs.declared.judging.OrderVerdict.TheVariants.{Ordered}
use Rattle.tx_order.specs.Ordered.{Order, plan_before}
use Rattle.tx_order.specs.OrderVerdicts.{IsRightVerdict}
use Rattle.tx_order.specs.Staged.{IsStageOf, HasStage}
use Rattle.tx_commands.specs.declared.order.OrderRequest.{OrderRequest}
use Rattle.tx_requests.specs.declared.order.Switched.{Switched}
use Rattle.tx_requests.specs.Order.{OrderAnswers}

-- the plan after a stage of an order that is right keeps the rules
ordered_rules : (A : Type 0) (old new q : Plan) (limit spare : ℕ) (o : Order) (n : ℕ)
    → IsRightVerdict {A = A} old new q limit spare (Ordered o) → IsPlan (plan_before o n)
ordered_rules A old new q limit spare o n right =
    let mixture = right.0.order.mixtures n in mixture.rules

module _ {A : Type 0} (r : OrderRequest) (a : Switched A) where
  -- it is one of some texts
  abbrev pub IsKnown : Type 0
  IsKnown = (t : TwoPlans A) × AreJoined t × OrderAnswers r t (Ok a)

  module _ (o : Order) (is : a.verdict ≡ Ordered o) where
    -- the order has the stage that is asked for
    pub answer_stage : IsKnown → (n : ℕ) → r.stage ≡ Some n → IsStageOf o n
    answer_stage (t, known, (old, new, right, there)) n asked =
        subst (λ (s : Option ℕ). HasStage {A = A} s (Ordered o)) asked
        (subst (λ (v : OrderVerdict A). HasStage r.stage v) is there)

    -- the plan after a stage keeps the rules
    pub answer_rules : IsKnown → (n : ℕ) → IsPlan (plan_before o n)
    answer_rules (t, known, (old, new, right, there)) n =
        ordered_rules A t.joined.old t.joined.new t.new.plan r.limits.limit r.limits.spare o n
        (subst (IsRightVerdict t.joined.old t.joined.new t.new.plan r.limits.limit r.limits.spare) is right)
