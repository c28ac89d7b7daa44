-- The first circuit that is found, number by number.
use Rattle.tx_machine.proofs.Common.{◌≡◌, ℕ, zero, suc, ◌+◌, ◌-◌, ◌<◌, Bool, true, false, cond, List, [], ◌∷◌, ◌++◌, map, Option, Some, None, refl, ap, sym, ◌∙◌, subst, arith, find, if◌then◌else◌, slice_get, nat_le, ◌&&◌, ◌==◌, option_map_or, Plan, Group, route_list, Circuit, Route, Seized, Call, call_of, exchange_of, State, routed, with_call, accepted, first_free, choice}
use Rattle.tx_plan.specs.Circuits.{upward, downward, circuits_at, order_at, is_circuit, ends_of, count_of}
use Rattle.tx_machine.proofs.Uses.{first_in-is, chosen}
use Rattle.tx_machine.proofs.Routed.{seizes}

module _ (t : Circuit → Bool) (g : ℕ) where
  abbrev pub mk : ℕ → Circuit
  mk n = record { group = g; number = n }

  find_push : (xs : List ℕ) (n : ℕ) → find t (map mk xs) ≡ None → find t (map mk (xs ++ n ∷ [])) ≡ (if t (mk n) then Some (mk n) else None)
  find_push [] n h = refl
  find_push (x ∷ xs) n h =
      elim (t (mk x)) as (λ b. cond b (Some (mk x)) (find t (map mk xs)) ≡ None → cond b (Some (mk x)) (find t (map mk (xs ++ n ∷ []))) ≡ (if t (mk n) then Some (mk n) else None)) [
        | true ↦ λ e. let bad : ⊥ = cc in absurd bad
        | false ↦ λ e. find_push xs n e
      ] h

  find_stays : (xs ys : List ℕ) (x : Circuit) → find t (map mk xs) ≡ Some x → find t (map mk (xs ++ ys)) ≡ Some x
  find_stays [] ys x h = let bad : ⊥ = cc in absurd bad
  find_stays (z ∷ xs) ys x h =
      elim (t (mk z)) as (λ b. cond b (Some (mk z)) (find t (map mk xs)) ≡ Some x → cond b (Some (mk z)) (find t (map mk (xs ++ ys))) ≡ Some x) [
        | true ↦ λ e. e
        | false ↦ λ e. find_stays xs ys x e
      ] h

  pub up_more : (n : ℕ) (b : Bool) → find t (map mk (upward n)) ≡ None → b ≡ t (record { group = g; number = n + 1 }) → b ≡ false → find t (map mk (upward (n + 1))) ≡ None
  up_more n b h e f =
      ap (λ k. find t (map mk (upward k))) (let q : n + 1 ≡ suc n = omega arith in q) ∙ find_push (upward n) (suc n) h
      ∙ ap (λ b. if b then Some (mk (suc n)) else None) (ap (λ k. t (mk k)) (let q : suc n ≡ n + 1 = omega arith in q) ∙ sym e ∙ f)

  pub up_found : (count n : ℕ) (b : Bool) → n < count → find t (map mk (upward n)) ≡ None → b ≡ t (record { group = g; number = n + 1 }) → b ≡ true → find t (map mk (upward count)) ≡ Some (record { group = g; number = n + 1 })
  up_found count n b less h e f = later count less
    where
      now : find t (map mk (upward (suc n))) ≡ Some (mk (n + 1))
      now = find_push (upward n) (suc n) h ∙ ap (λ k. if t (mk k) then Some (mk k) else None) (let q : suc n ≡ n + 1 = omega arith in q) ∙ ap (λ b. if b then Some (mk (n + 1)) else None) (sym e ∙ f)

      later : (count : ℕ) → n < count → find t (map mk (upward count)) ≡ Some (mk (n + 1))
      later zero less = absurd (omega arith)
      later (suc m) less = cases m (nat_le (suc n) m) refl less (later m)
        where
          cases : (m : ℕ) (b : Bool) → nat_le (suc n) m ≡ b → n < suc m → (n < m → find t (map mk (upward m)) ≡ Some (mk (n + 1))) → find t (map mk (upward (suc m))) ≡ Some (mk (n + 1))
          cases m true e less rest = find_stays (upward m) (suc m ∷ []) (mk (n + 1)) (rest (grind arith))
          cases m false e less rest = let q : m ≡ n = grind arith in subst (λ k. find t (map mk (upward (suc k))) ≡ Some (mk (n + 1))) (sym q) now

  pub down_less : (n : ℕ) (b : Bool) → 0 < n → b ≡ t (record { group = g; number = n }) → b ≡ false → find t (map mk (downward n)) ≡ find t (map mk (downward (n - 1)))
  down_less zero b h e f = absurd (omega arith)
  down_less (suc n) b h e f = ap (λ b. cond b (Some (mk (suc n))) (find t (map mk (downward n)))) (sym e ∙ f) ∙ ap (λ k. find t (map mk (downward k))) (let q : n ≡ suc n - 1 = omega arith in q)

-- a circuit that is chosen is one of the plan's
pub chosen_circuit : (p : Plan) (s : State) (exchange code : ℕ) (x : Circuit) → choice p s exchange code ≡ Some x → is_circuit p x ≡ true
chosen_circuit p s exchange code x h = let r = first_in-is (first_free p s exchange) (route_list p exchange code) x h in (chosen p s exchange r.0 x r.2).planned

-- so is one that a Route seizes
pub seized_circuit : (p : Plan) (s : State) (n : ℕ) (x : Circuit) → (accepted p s (Route n)).0 ≡ Seized x → is_circuit p x ≡ true
seized_circuit p s n x e = at (call_of n s.calls) e
  where
    at : (o : Option Call) → (with_call o s (λ c. routed p s c)).0 ≡ Seized x → is_circuit p x ≡ true
    at None e = let bad : ⊥ = cc in absurd bad
    at (Some c) e = let r = seizes p s c x e in chosen_circuit p s (exchange_of p c) r.0 x r.1

pub counted_circuit : (p : Plan) (x : Circuit) → (nat_le 1 x.number && nat_le x.number (option_map_or (λ (r : Group). r.count) (slice_get p.groups x.group) 0)) ≡ is_circuit p x
counted_circuit p x = at (slice_get p.groups x.group)
  where
    none : (n : ℕ) → (nat_le 1 n && nat_le n 0) ≡ false
    none zero = refl
    none (suc n) = grind arith

    at : (o : Option Group) → (nat_le 1 x.number && nat_le x.number (option_map_or (λ (r : Group). r.count) o 0)) ≡ option_map_or (λ (r : Group). nat_le 1 x.number && nat_le x.number r.count) o false
    at None = none x.number
    at (Some r) = refl

-- the free circuits of a group, by its first end and its count
pub by_first_end : (p : Plan) (g exchange : ℕ) (t : Circuit → Bool) → (if (ends_of p g).0 == exchange then find t (map (λ n. record { group = g; number = n }) (upward (count_of p g))) else find t (map (λ n. record { group = g; number = n }) (downward (count_of p g)))) ≡ find t (circuits_at p g exchange)
by_first_end p g exchange t = at (slice_get p.groups g)
  where
    none : (b : Bool) → (if b then find t [] else find t []) ≡ None
    none true = refl
    none false = refl

    at : (o : Option Group) → (if (option_map_or {U = ℕ × ℕ} (λ (r : Group). (r.a, r.b)) o (0, 0)).0 == exchange then find t (map (λ n. record { group = g; number = n }) (upward (option_map_or (λ (r : Group). r.count) o 0))) else find t (map (λ n. record { group = g; number = n }) (downward (option_map_or (λ (r : Group). r.count) o 0)))) ≡ find t (option_map_or (λ (r : Group). map (λ n. record { group = g; number = n }) (order_at r exchange)) o [])
    at None = none (0 == exchange)
    at (Some r) = pick (r.a == exchange)
      where
        pick : (b : Bool) → (if b then find t (map (λ n. record { group = g; number = n }) (upward r.count)) else find t (map (λ n. record { group = g; number = n }) (downward r.count))) ≡ find t (map (λ n. record { group = g; number = n }) (if b then upward r.count else downward r.count))
        pick true = refl
        pick false = refl
