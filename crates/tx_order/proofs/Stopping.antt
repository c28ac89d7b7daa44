-- The plan where a stage is stopped.
use Rattle.tx_order.proofs.Common.{◌≡◌, ℕ, zero, suc, ◌+◌, ◌-◌, ◌<◌, Bool, true, false, List, Option, None, Some, inl, inr, refl, sym, ap, ◌∙◌, subst, arith, Pair, Plan, IsPlan, Ranks, IsCertified, SameNetwork, IsMixture, AreCommon, same_back, same_along, CanBeCertified, IsOrder, Order, IsOrderKept, fronts_before, plan_before, plan_stopped, has_list, has_bar, route_list, is_barred}
use Rattle.std.specs.Prelude.{◌⊎◌, if◌then◌else◌}
use Rattle.tx_plan.specs.Mixtures.{IsEither}
use Rattle.tx_plan.proofs.CommonRanks.{mixture_certified}
use Rattle.tx_order.specs.Stopped.{is_done, stages_done, IsStopped}
use Rattle.tx_order.proofs.Ordered.{is_order_of, stage_common}
use Rattle.tx_order.proofs.Switched.{switched_mixture}
use Rattle.tx_order.proofs.TwoFronts.{list_there, bar_there, plan_list, plan_bar}

-- a stage is done, or it is not
either : (done : Option (List Pair)) (n x c : ℕ) → (stages_done done n x c ≡ n - 1) ⊎ (stages_done done n x c ≡ n)
either None n x c = inr refl
either (Some pairs) n x c = by (is_done pairs x c)
  where
    by : (b : Bool) → ((if b then n else n - 1) ≡ n - 1) ⊎ ((if b then n else n - 1) ≡ n)
    by true = inr refl
    by false = inl refl

module _ (o : Order) (k : IsOrderKept o) where
  -- the plans before and after it have common ranks
  stage_ranks : (n : ℕ) → (ranks : Ranks) × AreCommon (plan_before o (n - 1)) (plan_before o n) ranks o.transition.limit o.transition.spare
  stage_ranks zero = let a = (is_order_of o k).certified 0 in (a.0, record { before = a.1; after = a.1 })
  stage_ranks (suc s) =
      let a = stage_common o k s in
      let before : s ≡ suc s - 1 = omega arith in
      let after : s + 1 ≡ suc s = omega arith in (
        a.0,
        subst (λ i. AreCommon (plan_before o i) (plan_before o (suc s)) a.0 o.transition.limit o.transition.spare) before
            (subst (λ i. AreCommon (plan_before o s) (plan_before o i) a.0 o.transition.limit o.transition.spare) after a.1),
      )

  module _ (n : ℕ) (done : Option (List Pair)) where
    lists : (x c : ℕ) → route_list (plan_stopped o n done) x c ≡ route_list (plan_before o (stages_done done n x c)) x c
    lists x c = list_there o.transition (λ x c. fronts_before o (stages_done done n x c) c) x c ∙ sym (plan_list o.transition (fronts_before o (stages_done done n x c)) x c)

    bars : (x c : ℕ) → is_barred (plan_stopped o n done) x c ≡ is_barred (plan_before o (stages_done done n x c)) x c
    bars x c = bar_there o.transition (λ x c. fronts_before o (stages_done done n x c) c) x c ∙ sym (plan_bar o.transition (fronts_before o (stages_done done n x c)) x c)

    mixture : IsMixture (plan_before o (n - 1)) (plan_before o n) (plan_stopped o n done)
    mixture = record {
      rules = (switched_mixture o.transition.old o.transition.new
          (λ x c. has_list o.transition (fronts_before o (stages_done done n x c) c) x c)
          (λ x c. has_bar o.transition (fronts_before o (stages_done done n x c) c) x c)
          k.transition.old_rules k.transition.new_rules k.transition.network).rules;
      network = record { exchanges = refl; codes = refl; ranges = refl; groups = refl };
      lists = λ x c. elim (either done n x c) [
        | inl e ↦ inl (lists x c ∙ ap (λ i. route_list (plan_before o i) x c) e)
        | inr e ↦ inr (lists x c ∙ ap (λ i. route_list (plan_before o i) x c) e)
      ];
      bars = λ x c. elim (either done n x c) [
        | inl e ↦ inl (bars x c ∙ ap (λ i. is_barred (plan_before o i) x c) e)
        | inr e ↦ inr (bars x c ∙ ap (λ i. is_barred (plan_before o i) x c) e)
      ];
    }

    pub stopped : IsStopped o n done (plan_stopped o n done)
    stopped = record {
      mixture = mixture;
      lists = lists;
      bars = bars;
      certified =
          let a = stage_ranks n in (
            a.0,
            mixture_certified (plan_before o (n - 1)) (plan_before o n) (plan_stopped o n done) a.0 o.transition.limit o.transition.spare
                (record { exchanges = refl; codes = refl; ranges = refl; groups = refl }) a.1 mixture,
          );
    }
