use Rattle.tx_requests.proofs.Common.{◌≡◌, ℕ, inr, refl, sym, subst, exits_with, memory_stop}
use Rattle.tx_join.specs.declared.joining.Joined.{Joined}
use Rattle.tx_order.specs.declared.switching.Switching.{Switching}
use Rattle.tx_order.specs.declared.switching.Switching.TheVariants.{Ordered, NoOrder}
use Rattle.tx_order.specs.Switchings.{IsRightSwitching, plans_of}
use Rattle.tx_files.specs.TwoPlans.{IsJoin}
use Rattle.tx_requests.proofs.Comparing.{in_order_if, outlook_in_order}
use Rattle.tx_join.specs.declared.refusal.JoinRefusal.TheVariants.{NoMemory as JoinNoMemory}
use Rattle.tx_requests.proofs.page_change.change_between.Goals as goal

-- what a search answers has the plans that it was given
plans_kept : {A : Type 0} (j : Joined A) (limit spare : ℕ) (s : Switching A)
    → IsRightSwitching j.old j.new limit spare s → plans_of s ≡ j
plans_kept j limit spare (Ordered o) h = λ i. record { old = h.old_plan i; new = h.new_plan i }
plans_kept j limit spare (NoOrder plans b a) h =
    λ i. record { old = h.old_plan i; new = h.new_plan i }

pub order-requires : goal.order-requires
order-requires g c = record { network = c.in_ok-joined.ensures.joined.network.same }

pub returns-in_err-switching-clause-refused : goal.returns-in_err-switching-clause-refused
returns-in_err-switching-clause-refused g c =
    rw (exits_with c.from_residual-in_err-switching.result memory_stop c.from_residual-in_err-switching.ensures.1)
    (record {
      refusal = JoinNoMemory;
      refused = inr (c.in_ok-joined.ensures.joined.unrefused, refl);
      told = refl;
    })

pub returns-clause-right : goal.returns-clause-right
returns-clause-right g c =
    let j = c.in_ok-joined.ensures.joined in
    let right = c.in_ok-switching.ensures.right in
    let limits = c.args.limits in
    let kept = plans_kept c.in_ok-joined.joined limits.limit limits.spare c.in_ok-switching.switching right in
    record {
      joined = subst (IsJoin c.args.old.now.plan c.args.new.now.plan) (sym kept) j;
      right = rw (j.before, j.after) at right;
      outlook = c.in_ok-outlook.ensures;
      counted = rw c.plans.ensures.new at c.in_ok-worse.ensures;
    }

pub compare-requires-clause-old : goal.compare-requires-clause-old
compare-requires-clause-old g c = outlook_in_order _ _ _ _ _ c.in_ok-outlook.ensures

pub compare-requires-clause-new : goal.compare-requires-clause-new
compare-requires-clause-new g c =
    let f = c.requires.found in
    in_order_if _ _ _ _ _ f.outcomes f.none

pub returns-in_err-worse-clause-refused : goal.returns-in_err-worse-clause-refused
returns-in_err-worse-clause-refused g c =
    rw (exits_with c.from_residual-in_err-worse.result memory_stop c.from_residual-in_err-worse.ensures.1)
    (record {
      refusal = JoinNoMemory;
      refused = inr (c.in_ok-joined.ensures.joined.unrefused, refl);
      told = refl;
    })
