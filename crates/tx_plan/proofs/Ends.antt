-- Where groups lead.
use Rattle.tx_plan.proofs.Common.{◌≡◌, ℕ, ◌<◌, true, false, cond, ◌==◌, length, Option, Some, None, refl, arith, Plan, Group, IsPlan, IsGroup}
use Rattle.std.specs.Prelude.{slice_get, option_and_then}
use Rattle.tx_plan.specs.Circuits.{other_end, far_end}
use Rattle.tx_plan.proofs.ByIndex.{all_at}

-- the exchange across a group is one of the plan
pub end_within : (p : Plan) → IsPlan p → (g x y : ℕ) → other_end p g x ≡ Some y → y < length p.exchanges
end_within p ok g x y h = by_get (slice_get p.groups g) refl h
  where
    by_ends : (r : Group) → IsGroup p r → far_end r x ≡ Some y → y < length p.exchanges
    by_ends r w h =
        elim (r.a == x) as (λ b. cond b (Some r.b) (cond (r.b == x) (Some r.a) None) ≡ Some y → y < length p.exchanges) [
          | true ↦ λ h. let e : r.b ≡ y = cc in let s = w.second in omega arith
          | false ↦ λ h. elim (r.b == x) as (λ b. cond b (Some r.a) None ≡ Some y → y < length p.exchanges) [
            | true ↦ λ h. let e : r.a ≡ y = cc in let s = w.first in omega arith
            | false ↦ λ h. absurd (let bad : ⊥ = cc in bad)
          ] h
        ] h

    by_get : (o : Option Group) → slice_get p.groups g ≡ o → option_and_then (λ r. far_end r x) o ≡ Some y → y < length p.exchanges
    by_get None e k = absurd (let bad : ⊥ = cc in bad)
    by_get (Some r) e k = by_ends r (all_at (IsGroup p) p.groups g r ok.groups e) k
