-- The verdict on an order is right.
use Rattle.tx_order.proofs.Common.{◌≡◌, ℕ, subst, Plan, Certificate, ranks_of, Finding, Ranking, Found, Fails, CanBeCertified, IsRightRanking, CanBothBeCertified, Order}
use Rattle.std.specs.Prelude.{Vec}
use Rattle.tx_join.specs.declared.joining.Joined.{Joined}
use Rattle.tx_order.specs.declared.switching.Switching.{Switching}
use Rattle.tx_order.specs.declared.switching.Switching.TheVariants.{Ordered as FoundOrdered, NoOrder as FoundNoOrder}
use Rattle.tx_order.specs.declared.judging.OrderVerdict.TheVariants.{Ordered, NoOrder, NewUnsound}
use Rattle.tx_order.specs.Switchings.{IsOrdered, IsRightSwitching}
use Rattle.tx_order.specs.OrderVerdicts.{IsRightVerdict}

module _ (before after : Plan) (limit spare : ℕ) where
  for_limits : (p q : Plan) (l s : ℕ) → p ≡ q → l ≡ limit → s ≡ spare → CanBeCertified p l s → CanBeCertified q limit spare
  for_limits p q l s a b c h = subst (λ (n : ℕ). CanBeCertified q limit n) c (subst (λ (n : ℕ). CanBeCertified q n s) b (subst (λ (r : Plan). CanBeCertified r l s) a h))

  -- where there is an order both plans can be certified
  both_certified : (o : Order) → IsOrdered before after limit spare o → CanBothBeCertified before after limit spare
  both_certified o h =
      let w = o.transition in
      let t = h.kept.transition in (
        for_limits w.old before w.limit w.spare h.old_plan h.same_limit h.same_spare (ranks_of w.before, t.old_certified),
        for_limits w.new after w.limit w.spare h.new_plan h.same_limit h.same_spare (ranks_of w.after, t.new_certified),
      )

  -- by the judgement on the new plan as it is
  module _ {A : Type 0} (new : Plan) (o : Order) (h : IsOrdered before after limit spare o) (r : Ranking A) (right : IsRightRanking new limit spare r) where
    pub new_sound : (cert : Certificate) → r ≡ Found cert → IsRightVerdict {A = A} before after new limit spare (Ordered o)
    new_sound cert e = (h, (cert, (subst (IsRightRanking new limit spare) e right).1))

    pub new_unsound : (findings : Vec (Finding A) A) → r ≡ Fails findings → IsRightVerdict before after new limit spare (NewUnsound findings)
    new_unsound findings e = (both_certified o h, subst (IsRightRanking new limit spare) e right)

  -- by what the search over the joined network came to
  module _ {A : Type 0} (s : Switching A) (right : IsRightSwitching before after limit spare s) where
    pub was_ordered : (o : Order) → s ≡ FoundOrdered o → IsOrdered before after limit spare o
    was_ordered o e = subst (IsRightSwitching before after limit spare) e right

    pub none_found : (new : Plan) (plans : Joined A) (b a : Ranking A) → s ≡ FoundNoOrder plans b a → IsRightVerdict before after new limit spare (NoOrder plans b a)
    none_found new plans b a e = subst (IsRightSwitching before after limit spare) e right
