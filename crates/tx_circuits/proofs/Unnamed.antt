-- A plan and its groups without their names have the same circuits, and the same ends may seize them.
use Rattle.tx_circuits.proofs.Common.{◌≡◌, ◌∙◌, ℕ, false, List, [], map, Option, Some, None, refl, ap, slice_get, ◌&&◌, nat_le, option_map, option_map_or, slice_get-map, Plan, Group, is_circuit, may_seize, may_seize_row, circuits_at, order_at, Circuit, Table, plan_of, without_name}

module _ (p : Plan) (t : Table) (same : t.groups ≡ map without_name p.groups) where
  row : (g : ℕ) → slice_get t.groups g ≡ option_map without_name (slice_get p.groups g)
  row g = ap (λ l. slice_get l g) same ∙ slice_get-map without_name p.groups g

  pub may_seize-same : (g x : ℕ) → may_seize (plan_of t) g x ≡ may_seize p g x
  may_seize-same g x = ap (λ o. option_map_or (λ r. may_seize_row r x) o false) (row g) ∙ each (slice_get p.groups g)
    where
      each : (o : Option Group) → option_map_or (λ r. may_seize_row r x) (option_map without_name o) false ≡ option_map_or (λ r. may_seize_row r x) o false
      each None = refl
      each (Some r) = refl

  pub is_circuit-same : (c : Circuit) → is_circuit (plan_of t) c ≡ is_circuit p c
  is_circuit-same c = ap (λ o. option_map_or (λ r. nat_le 1 c.number && nat_le c.number r.count) o false) (row c.group) ∙ each (slice_get p.groups c.group)
    where
      each : (o : Option Group) → option_map_or (λ r. nat_le 1 c.number && nat_le c.number r.count) (option_map without_name o) false ≡ option_map_or (λ r. nat_le 1 c.number && nat_le c.number r.count) o false
      each None = refl
      each (Some r) = refl

  pub circuits_at-same : (g x : ℕ) → circuits_at (plan_of t) g x ≡ circuits_at p g x
  circuits_at-same g x = ap listed (row g) ∙ each (slice_get p.groups g)
    where
      listed : Option Group → List Circuit
      listed o = option_map_or (λ r. map (λ n. record { group = g; number = n }) (order_at r x)) o []

      each : (o : Option Group) → listed (option_map without_name o) ≡ listed o
      each None = refl
      each (Some r) = refl
