-- Which groups have a free circuit, where there is one call.
use Rattle.std.proofs.Common.{◌≡◌, ℕ, zero, suc, ◌+◌, ◌<◌, ◌≤◌, ◌==◌, Bool, true, false, ◌&&◌, nat_le, eqb, eqb-true, eq-eqb, List, [], ◌∷◌, ◌++◌, cond, inl, inr, map, length, Option, Some, None, refl, sym, ap, ◌∙◌, subst, arith, append-nil}
use Rattle.std.specs.Prelude.{count_by, filter, find, is_some, option_and_then}
use Rattle.tx_trace.proofs.Common.{list_any, nat_cmp, length-map, map-append, filter-append, length-filter, Plan, route_list, Circuit, Line, Among, AllDiffer, all_distinct, Hop, Standing, State, has_free}
use Rattle.std.specs.FinSet as set
use Rattle.std.proofs.lemmas.Bool.{and_parts, and_from, leb-true, le-leb, lt-ltb, le-ltb, both_ways}
use Rattle.std.proofs.lemmas.Map.Steps.{length-le_from_distinct_below, le-length_from_below}
use Rattle.tx_plan.specs.Orders.{same_circuit}
use Rattle.tx_plan.specs.Circuits.{is_circuit, circuits_at, count_of}
use Rattle.tx_plan.proofs.Among.{among_cases, among_map, map_among, among_filter, filter_among}
use Rattle.tx_rank.proofs.Ways.{once_cons, once_push}
use Rattle.tx_machine.specs.InUse.{carries, is_free_at, is_down, first_free, first_in, choice}
use Rattle.tx_machine.proofs.Lists.{any_mem, mem_any, find_none}
use Rattle.tx_machine.proofs.Choosing.{counted_circuit}
use Rattle.tx_machine.proofs.Uses.{IsChosen, chosen}
use Rattle.tx_machine.proofs.Excuses.{circuit_listed}
use Rattle.tx_machine.proofs.OneCall.{alone, on_way, step_of, none_circuit}

-- NUMBERS FROM 1 TO A COUNT

above_none : (ns : List ℕ) (n : ℕ) → ((k : ℕ) → Among k ns → (1 ≤ k) × (k ≤ n)) → (k : ℕ) → Among k (0 ∷ ns) → k < n + 1
above_none ns n all k (inl e) = omega arith
above_none ns n all k (inr m) = let l = (all k m).1 in omega arith

few_numbers : (ns : List ℕ) (n : ℕ) → AllDiffer ns → ((k : ℕ) → Among k ns → (1 ≤ k) × (k ≤ n)) → length ns ≤ n
few_numbers ns n once all =
    let fresh = once_cons 0 ns (λ m. let l = (all 0 m).0 in absurd (omega arith)) once in
    let l = length-le_from_distinct_below (0 ∷ ns) (n + 1) (all_distinct (0 ∷ ns) fresh) (λ q h. let r = any_mem (eqb q) (0 ∷ ns) h in above_none ns n all q (subst (λ k. Among k (0 ∷ ns)) (sym (eqb-true q r.0 r.2)) r.1)) in
    omega arith

many_numbers : (ns : List ℕ) (n : ℕ) → ((k : ℕ) → 1 ≤ k → k ≤ n → Among k ns) → n ≤ length ns
many_numbers ns n all = let l = le-length_from_below (0 ∷ ns) (suc n) each in omega arith
  where
    there : (q : ℕ) → q < suc n → Among q (0 ∷ ns)
    there zero h = inl refl
    there (suc q) h = inr (all (suc q) (omega arith) (omega arith))

    each : (q : ℕ) → q < suc n → list_any (eqb q) (0 ∷ ns) ≡ true
    each q h = mem_any (eqb q) (0 ∷ ns) q (there q h) (eq-eqb q q refl)

-- THE CIRCUITS OF A GROUP THAT A CALL CARRIES

abbrev circuit : ℕ → ℕ → Circuit
circuit g k = record { group = g; number = k }

circuit_is : (x : Circuit) (g : ℕ) → (x.group == g) ≡ true → x ≡ circuit g x.number
circuit_is x g e = λ i. record { group = eqb-true x.group g e i; number = x.number }

numbered : (p : Plan) (g k : ℕ) → is_circuit p (circuit g k) ≡ (nat_le 1 k && nat_le k (count_of p g))
numbered p g k = sym (counted_circuit p (circuit g k))

-- their numbers
abbrev pub numbers : ℕ → List Hop → List ℕ
numbers g hops = map (λ h. h.circuit.number) (filter (λ h. h.circuit.group == g) hops)

abbrev pub carried : List Hop → List Circuit
carried hops = map (λ h. h.circuit) hops

module _ (g : ℕ) where
  number_carried : (k : ℕ) (hops : List Hop) → Among k (numbers g hops) → Among (circuit g k) (carried hops)
  number_carried k hops m =
      let n = map_among (λ (h : Hop). h.circuit.number) k (filter (λ h. h.circuit.group == g) hops) m in
      let f = filter_among (λ (h : Hop). h.circuit.group == g) n.0 hops n.1 in
      subst (λ x. Among x (carried hops)) (circuit_is n.0.circuit g f.1 ∙ ap (circuit g) n.2) (among_map (λ (h : Hop). h.circuit) n.0 hops f.0)

  carried_number : (k : ℕ) (hops : List Hop) → list_any (λ h. same_circuit h.circuit (circuit g k)) hops ≡ true → Among k (numbers g hops)
  carried_number k hops e =
      let r = any_mem (λ (h : Hop). same_circuit h.circuit (circuit g k)) hops e in
      let b = and_parts (r.0.circuit.group == g) (r.0.circuit.number == k) r.2 in
      subst (λ n. Among n (numbers g hops)) (eqb-true r.0.circuit.number k b.1)
      (among_map (λ (h : Hop). h.circuit.number) r.0 (filter (λ h. h.circuit.group == g) hops) (among_filter (λ (h : Hop). h.circuit.group == g) r.0 hops r.1 b.0))

  filtered : (hops : List Hop) → length (filter (λ (s : ℕ × ℕ). s.0 == g) (map step_of hops)) ≡ length (filter (λ h. h.circuit.group == g) hops)
  filtered [] = refl
  filtered (h ∷ hops) =
      elim (h.circuit.group == g) as (λ b. length (cond b (step_of h ∷ filter (λ (s : ℕ × ℕ). s.0 == g) (map step_of hops)) (filter (λ (s : ℕ × ℕ). s.0 == g) (map step_of hops)))
      ≡ length (cond b (h ∷ filter (λ k. k.circuit.group == g) hops) (filter (λ k. k.circuit.group == g) hops))) [ true ↦ ap suc (filtered hops) | false ↦ filtered hops ]

  -- as many as the steps by the group
  counted : (hops : List Hop) → count_by (λ (s : ℕ × ℕ). s.0 == g) (map step_of hops) ≡ length (numbers g hops)
  counted hops = sym (length-filter (λ (s : ℕ × ℕ). s.0 == g) (map step_of hops)) ∙ filtered hops ∙ sym (length-map (filter (λ h. h.circuit.group == g) hops) (λ (h : Hop). h.circuit.number))

-- the circuits of the hops are circuits of the plan, and none is twice among them
pub record AreApart (p : Plan) (hops : List Hop) : Type 0 where
  pub planned : (x : Circuit) → Among x (carried hops) → is_circuit p x ≡ true
  pub once : (g : ℕ) → AllDiffer (numbers g hops)

pub none_apart : (p : Plan) → AreApart p []
none_apart p = record { planned = λ x m. absurd m; once = λ g. tt }

pub one_apart : (p : Plan) (hops : List Hop) (h : Hop) → AreApart p hops → is_circuit p h.circuit ≡ true → (Among h.circuit (carried hops) → ⊥) → AreApart p (hops ++ h ∷ [])
one_apart p hops h a planned new = record {
  planned = λ x m. elim (among_cases x (carried hops) (h.circuit ∷ []) (subst (Among x) (map-append (λ (k : Hop). k.circuit) hops (h ∷ [])) m)) [
    | inl old ↦ a.planned x old
    | inr e ↦ elim e [ inl q ↦ subst (λ y. is_circuit p y ≡ true) q planned | inr b ↦ absurd b ]
  ];
  once = λ g. subst AllDiffer (sym (pushed g)) (differ g);
}
  where
    pushed : (g : ℕ) → numbers g (hops ++ h ∷ []) ≡ numbers g hops ++ numbers g (h ∷ [])
    pushed g = ap (λ l. map (λ (k : Hop). k.circuit.number) l) (filter-append (λ (k : Hop). k.circuit.group == g) hops (h ∷ []))
        ∙ map-append (λ (k : Hop). k.circuit.number) (filter (λ k. k.circuit.group == g) hops) (filter (λ k. k.circuit.group == g) (h ∷ []))

    differ : (g : ℕ) → AllDiffer (numbers g hops ++ numbers g (h ∷ []))
    differ g =
        elim (h.circuit.group == g) as (λ b. (h.circuit.group == g) ≡ b → AllDiffer (numbers g hops ++ map (λ (k : Hop). k.circuit.number) (cond b (h ∷ []) []))) [
          | true ↦ λ e. once_push (numbers g hops) h.circuit.number (a.once g) (λ m. new (subst (λ x. Among x (carried hops)) (sym (circuit_is h.circuit g e)) (number_carried g h.circuit.number hops m)))
          | false ↦ λ e. subst AllDiffer (sym (append-nil (numbers g hops))) (a.once g)
        ] refl

-- THE CIRCUIT THAT THE CALL GETS

first_is : (look : ℕ → Option Circuit) (t : ℕ → Bool) → ((g : ℕ) → is_some (look g) ≡ t g) → (gs : List ℕ) → first_in look gs ≡ option_and_then look (find t gs)
first_is look t h [] = refl
first_is look t h (g ∷ gs) =
    elim (t g) as (λ b. is_some (look g) ≡ b → first_in look (g ∷ gs) ≡ option_and_then look (cond b (Some g) (find t gs))) [
      | true ↦ λ e. rw e refl
      | false ↦ λ e. rw e (first_is look t h gs)
    ] (h g)

module _ (p : Plan) (line : Line) (keyed : List ℕ) (hops : List Hop) (apart : AreApart p hops) (n x : ℕ) where
  abbrev here : State
  here = alone (on_way line keyed hops Standing) set.empty n

  -- the group has a free circuit exactly where the hops go by fewer than it has
  pub free_there : (g : ℕ) → is_some (first_free p here x g) ≡ has_free p (map step_of hops) g
  free_there g = at (first_free p here x g) refl
    where
      bounds : (k : ℕ) → is_circuit p (circuit g k) ≡ true → (1 ≤ k) × (k ≤ count_of p g)
      bounds k e = let b = and_parts (nat_le 1 k) (nat_le k (count_of p g)) (sym (numbered p g k) ∙ e) in (leb-true 1 k b.0, leb-true k (count_of p g) b.1)

      some : (z : Circuit) → IsChosen p here x g z → has_free p (map step_of hops) g ≡ true
      some z i =
          let e = circuit_is z g (eq-eqb z.group g i.group) in
          let ns = numbers g hops in
          let fresh = once_cons z.number ns (λ m. i.free.carried (on_way line keyed hops Standing) (inl refl) (subst (λ y. Among y (carried hops)) (sym e) (number_carried g z.number hops m))) (apart.once g) in
          let few = few_numbers (z.number ∷ ns) (count_of p g) fresh
          (λ k m. elim m [ inl q ↦ subst (λ j. (1 ≤ j) × (j ≤ count_of p g)) q (bounds z.number (subst (λ y. is_circuit p y ≡ true) e i.planned)) | inr o ↦ bounds k (apart.planned (circuit g k) (number_carried g k hops o)) ]) in
          let c = counted g hops in
          lt-ltb (count_by (λ (s : ℕ × ℕ). s.0 == g) (map step_of hops)) (count_of p g) (omega arith)

      none : find (is_free_at p here x) (circuits_at p g x) ≡ None → has_free p (map step_of hops) g ≡ false
      none e =
          let many = many_numbers (numbers g hops) (count_of p g) (λ k l h. carried_number g k hops (taken k e (numbered p g k ∙ and_from (nat_le 1 k) (nat_le k (count_of p g)) (le-leb 1 k l) (le-leb k (count_of p g) h)))) in
          let c = counted g hops in
          le-ltb (count_by (λ (s : ℕ × ℕ). s.0 == g) (map step_of hops)) (count_of p g) (omega arith)
        where
          taken : (k : ℕ) → find (is_free_at p here x) (circuits_at p g x) ≡ None → is_circuit p (circuit g k) ≡ true → carries (on_way line keyed hops Standing) (circuit g k) ≡ true
          taken k e known =
              elim (carries (on_way line keyed hops Standing) (circuit g k)) as (λ b. carries (on_way line keyed hops Standing) (circuit g k) ≡ b → b ≡ true) [
                | true ↦ λ h. refl
                | false ↦ λ h.
                    let f = none_circuit (circuit g k) in
                    let free : is_free_at p here x (circuit g k) ≡ true = rw (h, f) refl in
                    absurd (both_ways _ (find_none (is_free_at p here x) (circuits_at p g x) (circuit g k) e (circuit_listed p (circuit g k) g x known refl)) free)
              ] refl

      at : (o : Option Circuit) → first_free p here x g ≡ o → is_some o ≡ has_free p (map step_of hops) g
      at (Some z) e = sym (some z (chosen p here x g z e))
      at None e =
          let up : is_down here g ≡ false = let none : set.contains {R = nat_cmp} set.empty g ≡ false = set.contains-empty nat_cmp g in rw none refl in
          sym (none (rw up at e))

  pub chosen_there : (c : ℕ) → choice p here x c ≡ option_and_then (first_free p here x) (find (has_free p (map step_of hops)) (route_list p x c))
  chosen_there c = first_is (first_free p here x) (has_free p (map step_of hops)) free_there (route_list p x c)
