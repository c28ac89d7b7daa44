-- An order over a joined network leads from the old plan to the new one.
use Rattle.tx_order.proofs.Common.{◌≡◌, ℕ, inl, inr, sym, ap, subst, arith, cases_eq, Plan, route_list, is_barred, AreAlike, Order, plan_before, stages_in, IsOrdered}
use Rattle.tx_join.specs.Joined.{joined_old, joined_new}
use Rattle.tx_join.specs.Laws.{CanBeJoined}
use Rattle.tx_join.proofs.LeadOver.{lead_over}
use Rattle.tx_order.specs.LeadsOver.{LeadsOver}

same_alike : (p q : Plan) → p ≡ q → AreAlike p q
same_alike p q e = λ c l. record { lists = λ x. ap (λ r. route_list r x c) e; bars = λ x. ap (λ r. is_barred r x c) e }

pub leads_over : (old new : Plan) (limit spare : ℕ) (o : Order) → CanBeJoined old new
    → IsOrdered (joined_old old new) (joined_new old new) limit spare o → LeadsOver old new o
leads_over old new limit spare o can h = record {
  ends = lead_over old new can;
  first = h.order.first;
  last = elim (cases_eq 0 (stages_in o)) [
    | inl e ↦ subst (λ (n : ℕ). AreAlike (plan_before o n) (joined_new old new)) e (subst (λ (p : Plan). AreAlike p (joined_new old new)) (sym h.order.first) (h.order.none (sym e)))
    | inr e ↦ same_alike (plan_before o (stages_in o)) (joined_new old new) (h.order.last (omega (arith, e)))
  ];
}
