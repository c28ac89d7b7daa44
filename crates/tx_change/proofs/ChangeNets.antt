-- The network of a change obeys the rules of a plan.
use Rattle.std.proofs.Common.{ℕ, ◌<◌, ◌≤◌, List, ◌++◌, length, length-append, min, inl, inr, sym, ap, ◌∙◌, subst, arith}
use Rattle.tx_change.proofs.Common.{or_cases, Plan, IsPlan, route_list, is_origin_for, among_cases, IsNet, SameNetwork, ends_same, change_net}
use Rattle.tx_rank.proofs.Nets.{is_net}

pub least_listed : (xs ys : List ℕ) → min (length xs) (length ys) ≤ length (xs ++ ys)
least_listed xs ys = let l = length-append xs ys in omega arith

module _ (old new : Plan) (ok : IsPlan old) (new_ok : IsPlan new) (same : SameNetwork old new) where
  pub is_change_net : (c : ℕ) → c < length old.codes → IsNet (change_net old new c)
  is_change_net c h =
      let a = is_net old ok c h in
      let b = is_net new new_ok c (subst (λ n. c < n) (ap length same.codes) h) in
      let long = ap length same.exchanges in
      record {
        few = a.few;
        home = a.home;
        origins = λ x o. elim (or_cases (is_origin_for old x c) (is_origin_for new x c) o) [ inl o ↦ a.origins x o | inr o ↦ let w = b.origins x o in omega arith ];
        leads = λ x g m. elim (among_cases g (route_list old x c) (route_list new x c) m) [
          | inl l ↦ a.leads x g l
          | inr r ↦ let l = b.leads x g r in (l.0, sym (ends_same old new same g x) ∙ l.1, let w = l.2 in omega arith)
        ];
        listed = λ x. least_listed (route_list old x c) (route_list new x c);
      }
