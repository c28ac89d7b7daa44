-- A call has no more hops than the plan may have circuits: it carries none of them twice.
use Rattle.std.proofs.Common.{◌≡◌, ◌≢◌, ℕ, ◌+◌, ◌*◌, ◌-◌, ◌<◌, ◌≤◌, ◌==◌, eq-eqb, true, List, [], ◌∷◌, inl, inr, map, length, refl, sym, ◌∙◌, subst, arith}
use Rattle.tx_fill.proofs.Common.{and_from, both_ways, length-le_from_distinct_below, Plan, IsPlan, Among, Circuit, map_among, AllDiffer, all_distinct, any_among}
use Rattle.std.proofs.lemmas.List.{length-map}
use Rattle.tx_plan.specs.Orders.{same_circuit}
use Rattle.tx_plan.specs.Circuits.{is_circuit}
use Rattle.tx_machine.specs.declared.open_call.Hop.{Hop}
use Rattle.tx_machine.specs.Members.{NoneTwice}
use Rattle.tx_machine.specs.Passed.{Joins}
use Rattle.tx_machine.proofs.Lists.{all_from_mem, none_any}
use Rattle.tx_machine.proofs.Whole.{circuit_marked}

module _ (p : Plan) (ok : IsPlan p) where
  -- circuits by their places among all
  abbrev place : Circuit → ℕ
  place x = 240 * x.group + (x.number - 1)

  place_same : (x y : Circuit) → is_circuit p x ≡ true → is_circuit p y ≡ true → place x ≡ place y
      → same_circuit x y ≡ true
  place_same x y hx hy e =
      let a = circuit_marked p ok x hx in
      let b = circuit_marked p ok y hy in
      let group : x.group ≡ y.group = omega arith in
      let number : x.number ≡ y.number = omega arith in
      and_from (x.group == y.group) (x.number == y.number) (eq-eqb x.group y.group group)
      (eq-eqb x.number y.number number)

  below : (x : Circuit) → is_circuit p x ≡ true → place x < 240 * length p.groups
  below x h = let a = circuit_marked p ok x h in omega arith

  differ : (xs : List Circuit) → ((x : Circuit) → Among x xs → is_circuit p x ≡ true)
      → NoneTwice same_circuit xs → AllDiffer (map place xs)
  differ [] all once = tt
  differ (x ∷ xs) all once =
      (all_from_mem (λ m. place x ≢ m) (map place xs) new, differ xs (λ y i. all y (inr i)) once.1)
    where
      new : (m : ℕ) → Among m (map place xs) → place x ≢ m
      new m i e =
          let r = map_among place m xs i in
          both_ways (same_circuit x r.0) (none_any (same_circuit x) xs r.0 once.0 r.1)
          (place_same x r.0 (all x (inl refl)) (all r.0 (inr r.1)) (e ∙ sym r.2))

  planned : (x : ℕ) (hops : List Hop) → Joins p x hops → (y : Circuit)
      → Among y (map (λ h. h.circuit) hops) → is_circuit p y ≡ true
  planned x [] j y i = absurd i
  planned x (h ∷ hops) j y (inl e) = subst (λ (z : Circuit). is_circuit p z ≡ true) e j.0
  planned x (h ∷ hops) j y (inr i) = planned h.far hops j.2 y i

  pub few_hops : (x : ℕ) (hops : List Hop) → Joins p x hops
      → NoneTwice same_circuit (map (λ h. h.circuit) hops) → length hops ≤ 240 * length p.groups
  few_hops x hops joined once =
      let cs = map (λ (h : Hop). h.circuit) hops in
      let places = map place cs in
      let apart = all_distinct places (differ cs (planned x hops joined) once) in
      let few = length-le_from_distinct_below places (240 * length p.groups) apart
      (λ q h. let r = map_among place q cs (any_among q places h) in
      subst (λ (m : ℕ). m < 240 * length p.groups) r.2 (below r.0 (planned x hops joined r.0 r.1))) in
      let a : length places ≡ length cs = length-map cs place in
      let b : length cs ≡ length hops = length-map hops (λ (h : Hop). h.circuit) in
      omega arith
