-- Words that name groups.
use Rattle.tx_risk.proofs.Common.{◌≡◌, ℕ, true, false, not, List, refl, ap, is_none, bytes_eq, has_group, none_any, among_all}
use Rattle.tx_plan.specs.Plan.{Group, Plan, group_named}
use Rattle.tx_plan.proofs.Lists.{placed, no_index}

pub unknown_is : (p : Plan) (w : List ℕ) → is_none (group_named p w) ≡ not (has_group p w)
unknown_is p w =
    elim (has_group p w) as (λ b. has_group p w ≡ b → is_none (group_named p w) ≡ not b) [
      | true ↦ λ t. ap is_none (placed (λ (g : Group). bytes_eq w g.name) p.groups t)
      | false ↦ λ t. ap is_none (no_index (λ (g : Group). bytes_eq w g.name) p.groups
          (among_all _ p.groups
          (λ g m. none_any (λ (g : Group). bytes_eq w g.name) p.groups g t m)))
    ] refl
