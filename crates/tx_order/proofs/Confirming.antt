-- The plans before and after a stage, and what the checker says of them.
use Rattle.tx_order.proofs.Common.{◌≡◌, ℕ, ◌+◌, ◌<◌, ◌≤◌, List, Option, None, Pair, refl, ◌∙◌, subst, Plan, IsPlan, rerouted, SameNetwork, AreCommon, same_back, same_along, rerouted-is, Certificate, IsCertificateOf, ranks_of, IsConfirmed, Ranking, Found, Fails, CanBeCertified, IsRightRanking, CanBothBeCertified, levels_of, IsOrder, Order, plan_before, stages_in, IsOrderKept, Lists, AreListsOf, plan_stopped}
use Rattle.tx_join.specs.declared.joining.Joined.{Joined}
use Rattle.tx_change.proofs.Cleared.{certificate_along, cleared}
use Rattle.tx_order.specs.Switchings.{HasCleared, IsOrdered, HasNoOrder}
use Rattle.tx_order.proofs.Ordered.{is_order_of, stage_used, few_stages}

module _ (o : Order) (k : IsOrderKept o) where
  pub before_rules : (s : ℕ) → IsPlan (plan_before o s)
  before_rules s = ((is_order_of o k).mixtures s).rules

  pub before_network : (s : ℕ) → SameNetwork o.transition.old (plan_before o s)
  before_network s = ((is_order_of o k).mixtures s).network

  pub before_fits : (s : ℕ) (t : Certificate) → IsCertificateOf o.transition.old t → IsCertificateOf (plan_before o s) t
  before_fits s t h = certificate_along o.transition.old (plan_before o s) t (before_network s) h

  -- what the checker says of both plans clears the stage
  pub stage_cleared : (s : ℕ) (t : Certificate) → AreCommon (plan_before o s) (plan_before o (s + 1)) (ranks_of t) o.transition.limit o.transition.spare
      → IsConfirmed (plan_before o s) t o.transition.limit o.transition.spare → IsConfirmed (plan_before o (s + 1)) t o.transition.limit o.transition.spare → HasCleared o s
  stage_cleared s t common before after =
      (t, cleared (plan_before o s) (plan_before o (s + 1)) o.transition.limit o.transition.spare t (same_along (plan_before o s) o.transition.old (plan_before o (s + 1)) (same_back o.transition.old (plan_before o s) (before_network s)) (before_network (s + 1))) common before after)

-- the old plan with the lists of a plan on the way is that plan
module _ {A : Type 0} (o : Order) where
  pub with_stopped : (s : ℕ) (pairs : Option (List Pair)) (l : Lists A) → AreListsOf (plan_stopped o s pairs) l → rerouted o.transition.old l.routes l.bars ≡ plan_stopped o s pairs
  with_stopped s pairs l a = λ i. rerouted o.transition.old (a.routes i) (a.bars i)

  pub with_lists : (s : ℕ) (l : Lists A) → AreListsOf (plan_before o s) l → rerouted o.transition.old l.routes l.bars ≡ plan_before o s
  with_lists s l a = with_stopped s None l a

  -- and with its own it is itself
  pub with_own : (p : Plan) (l : Lists A) → SameNetwork p o.transition.old → AreListsOf o.transition.old l → rerouted p l.routes l.bars ≡ o.transition.old
  with_own p l same a = (λ i. rerouted p (a.routes i) (a.bars i)) ∙ rerouted-is p o.transition.old same

-- an order that is kept, and each stage of which is cleared
pub ordered : (o : Order) → IsOrderKept o → (old new : Plan) (limit spare : ℕ) → o.transition.old ≡ old → o.transition.new ≡ new → o.transition.limit ≡ limit → o.transition.spare ≡ spare
    → ((s : ℕ) → s < stages_in o → HasCleared o s) → IsOrdered old new limit spare o
ordered o k old new limit spare a b c d cleared = record {
  old_plan = a;
  new_plan = b;
  same_limit = c;
  same_spare = d;
  order = subst (λ (s : ℕ). IsOrder old new (plan_before o) (stages_in o) limit s) d
      (subst (λ (l : ℕ). IsOrder old new (plan_before o) (stages_in o) l o.transition.spare) c
      (subst (λ (p : Plan). IsOrder old p (plan_before o) (stages_in o) o.transition.limit o.transition.spare) b
      (subst (λ (p : Plan). IsOrder p o.transition.new (plan_before o) (stages_in o) o.transition.limit o.transition.spare) a (is_order_of o k))));
  cleared = cleared;
  used = stage_used o k;
  few = subst (λ (l : ℕ). stages_in o ≤ levels_of l) c (few_stages o k);
  kept = k;
}

-- WHERE ONE OF THE PLANS CANNOT BE CERTIFIED

module _ {A : Type 0} (plans : Joined A) (limit spare : ℕ) (before after : Ranking A) (a : IsRightRanking plans.old limit spare before) (b : IsRightRanking plans.new limit spare after) where
  not_found : (p : Plan) (r : Ranking A) → ((cert : Certificate) → r ≡ Found cert → ⊥) → IsRightRanking p limit spare r → CanBeCertified p limit spare → ⊥
  not_found p (Found cert) none h = absurd (none cert refl)
  not_found p (Fails findings) none h = h.2

  denied : (CanBothBeCertified plans.old plans.new limit spare → ⊥) → HasNoOrder plans.old plans.new limit spare plans before after
  denied none = record { old_plan = refl; new_plan = refl; before_right = a; after_right = b; none = none }

  pub old_denied : ((cert : Certificate) → before ≡ Found cert → ⊥) → HasNoOrder plans.old plans.new limit spare plans before after
  old_denied none = denied (λ can. not_found plans.old before none a can.0)

  pub new_denied : ((cert : Certificate) → after ≡ Found cert → ⊥) → HasNoOrder plans.old plans.new limit spare plans before after
  new_denied none = denied (λ can. not_found plans.new after none b can.1)
