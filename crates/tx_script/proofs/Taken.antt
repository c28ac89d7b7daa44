-- What an event does to the circuits that are taken.
use Rattle.std.proofs.Common.{◌≡◌, ℕ, ◌+◌, ◌==◌, Bool, true, false, not, ◌&&◌, ◌||◌, List, [], ◌∷◌, ◌++◌, ◌⊎◌, inl, inr, map, refl, sym, ap, ◌∙◌, subst, eqb-true, eq-eqb, append-nil}
use Rattle.std.proofs.lemmas.Bool.{or_cases, or_left, or_right, and_parts, and_from, not-true, false_from_ne_true}
use Rattle.std.proofs.lemmas.List.{map_push}
use Rattle.tx_script.proofs.Common.{if◌then◌else◌, filter, list_any, flat_map, circuit_cmp, same_circuit, Plan, Among, Circuit, Line, Cause, Phase, Standing, Calling, Connected, State, Holds, calling_on, uses, is_taken}
use Rattle.std.specs.Ordering.{eq_by_cmp}
use Rattle.std.specs.FinSet as set
use Rattle.tx_plan.proofs.Among.{among_cases, among_left, among_right, among_map, map_among, among_flat, flat_among, among_filter, filter_among}
use Rattle.tx_plan.proofs.Named.{circuits_total, same_circuit-is, same_circuit-itself, circuit_tie, exact_circuits, in_insert, in_union}
use Rattle.tx_machine.specs.declared.cause.Cause.TheVariants.{Lost as ByLoss}
use Rattle.tx_machine.specs.declared.open_call.Hop.{Hop}
use Rattle.tx_machine.specs.Call.{Call, circuit_called, is_numbered}
use Rattle.tx_machine.specs.InUse.{circuits_used, circuits_carried, seizes, uses_group}
use Rattle.tx_machine.specs.Routing.{set_call, in_phase}
use Rattle.tx_machine.specs.Ending.{given_up, end_calls}
use Rattle.tx_machine.specs.Confirming.{carried_on, thrown_back, collide}
use Rattle.tx_machine.specs.Step.{keyed_call, keyed_in, failed_at}
use Rattle.tx_machine.proofs.Lists.{any_mem, mem_any, none_any}
use Rattle.tx_machine.proofs.Invariant.{set_cases}

-- ---- what is taken, said of members

abbrev pub Taken : State → Circuit → Type 0
Taken s y = (set.contains s.releasing y ≡ true) ⊎ ((c : Call) × Among c s.calls × Among y (circuits_used c))

uses_member : (y : Circuit) (c : Call) → uses y c ≡ true → Among y (circuits_used c)
uses_member y c h = let r = any_mem (λ z. same_circuit z y) (circuits_used c) h in subst (λ z. Among z (circuits_used c)) (same_circuit-is r.0 y r.2) r.1

member_uses : (y : Circuit) (c : Call) → Among y (circuits_used c) → uses y c ≡ true
member_uses y c m = mem_any (λ z. same_circuit z y) (circuits_used c) y m (same_circuit-itself y)

pub is_taken-so : (s : State) (y : Circuit) → is_taken s y ≡ true → Taken s y
is_taken-so s y h =
    elim (or_cases (set.contains s.releasing y) (list_any (uses y) s.calls) h) [
      | inl r ↦ inl r
      | inr u ↦ (let q = any_mem (uses y) s.calls u in inr (q.0, q.1, uses_member y q.0 q.2))
    ]

pub so-is_taken : (s : State) (y : Circuit) → Taken s y → is_taken s y ≡ true
so-is_taken s y (inl r) = or_left (set.contains s.releasing y) (list_any (uses y) s.calls) r
so-is_taken s y (inr (c, m, u)) = or_right (set.contains s.releasing y) (list_any (uses y) s.calls) (mem_any (uses y) s.calls c m (member_uses y c u))

-- ---- sets of circuits

inserted : (s : set.FinSet circuit_cmp) (x y : Circuit) → (y ≡ x) ⊎ (set.contains s y ≡ true) → set.contains (set.insert s x) y ≡ true
inserted s x y (inl e) = set.contains-insert circuits_total s x y ∙ or_left _ _ (circuit_tie x y ∙ ap (same_circuit x) e ∙ same_circuit-itself x)
inserted s x y (inr h) = set.contains-insert circuits_total s x y ∙ or_right _ _ h

-- ---- the changes of a state

module _ (p : Plan) (s : State) (y : Circuit) where
  -- calls that end: what they used is releasing, or another call has seized it
  module _ (cause : Cause) (ends : Call → Bool) where
    abbrev kept : List Call
    kept = filter (λ c. not (ends c)) s.calls

    abbrev ended : List Call
    ended = filter ends s.calls

    abbrev left_over : Circuit → Bool
    left_over z = not (list_any (λ c. seizes c z) kept)

    pub end_only : Taken (end_calls p cause ends s) y → Taken s y
    end_only (inl r) = elim (in_union s.releasing (given_up ended kept) y r) [
      | inl o ↦ inl o
      | inr g ↦ (
          let q = any_mem (eq_by_cmp circuit_cmp y) (given_up ended kept) g in
          let same : q.0 ≡ y = same_circuit-is q.0 y (sym (circuit_tie q.0 y) ∙ q.2) in
          let u = flat_among circuits_used q.0 ended (filter_among left_over q.0 (flat_map circuits_used ended) q.1).0 in
          inr (u.0, (filter_among ends u.0 s.calls u.1).0, subst (λ z. Among z (circuits_used u.0)) same u.2)
          )
    ]
    end_only (inr (c, m, u)) = inr (c, (filter_among (λ c. not (ends c)) c s.calls m).0, u)

    -- the circuit of a call that ends
    gives : (c : Call) → Among c ended → Among y (circuits_used c) → Taken (end_calls p cause ends s) y
    gives c m u = at (list_any (λ c. seizes c y) kept) refl
      where
        at : (b : Bool) → list_any (λ c. seizes c y) kept ≡ b → Taken (end_calls p cause ends s) y
        at true e = let q = any_mem (λ c. seizes c y) kept e in inr (q.0, q.1, among_right y (circuits_carried q.0) (circuit_called q.0.phase) (called q.0.phase (calling_on q.0.phase y q.2)))
          where
            called : (phase : Phase) → phase ≡ Calling y → Among y (circuit_called phase)
            called phase e = subst (λ z. Among y (circuit_called z)) (sym e) (inl refl)
        at false e =
            let mine : Among y (given_up ended kept) = among_filter left_over y (flat_map circuits_used ended) (among_flat circuits_used c y ended m u) (ap not e) in
            let tie : eq_by_cmp circuit_cmp y y ≡ true = circuit_tie y y ∙ same_circuit-itself y in
            inl (set.contains-union circuits_total s.releasing (set.from_list (given_up ended kept)) y
            ∙ or_right _ _ (set.contains-from_list circuits_total (given_up ended kept) y ∙ mem_any (eq_by_cmp circuit_cmp y) (given_up ended kept) y mine tie))

    pub end_all : Taken s y → Taken (end_calls p cause ends s) y
    end_all (inl r) = inl (set.contains-union circuits_total s.releasing (set.from_list (given_up ended kept)) y ∙ or_left _ _ r)
    end_all (inr (c, m, u)) = at (ends c) refl
      where
        at : (b : Bool) → ends c ≡ b → Taken (end_calls p cause ends s) y
        at true e = gives c (among_filter ends c s.calls m e) u
        at false e = inr (c, among_filter (λ c. not (ends c)) c s.calls m (ap not e), u)

  -- a group that fails: none of its circuits is taken
  module _ (g : ℕ) where
    abbrev other : Circuit → Bool
    other z = not (z.group == g)

    fail_off : (c : Call) → uses_group g c ≡ false → Among y (circuits_used c) → other y ≡ true
    fail_off c n u = ap not (none_any (λ (z : Circuit). z.group == g) (circuits_used c) y n u)

    abbrev ended_on : State
    ended_on = end_calls p ByLoss (uses_group g) s

    retained : set.contains (set.retain ended_on.releasing other) y ≡ (set.contains ended_on.releasing y && other y)
    retained = set.contains-retain ended_on.releasing other y (λ z e. ap other (sym (exact_circuits y z e)))

    pub fail_only : Taken (failed_at p g s) y → (other y ≡ true) × Taken s y
    fail_only (inl r) = let q = and_parts (set.contains ended_on.releasing y) (other y) (sym retained ∙ r) in (q.1, end_only ByLoss (uses_group g) (inl q.0))
    fail_only (inr (c, m, u)) =
        let k = filter_among (λ c. not (uses_group g c)) c s.calls m in
        (fail_off c (not-true _ k.1) u, inr (c, k.0, u))

    pub fail_all : (other y ≡ true) × Taken s y → Taken (failed_at p g s) y
    fail_all (off, h) = at (end_all ByLoss (uses_group g) h)
      where
        at : Taken ended_on y → Taken (failed_at p g s) y
        at (inl r) = inl (retained ∙ and_from _ _ r off)
        at (inr u) = inr u

  -- a new call uses none
  module _ (line : Line) (keyed : List ℕ) where
    pub key_only : Taken (keyed_in s line keyed) y → Taken s y
    key_only (inl r) = inl r
    key_only (inr (c, m, u)) = elim (among_cases c s.calls (keyed_call (s.numbers + 1) line keyed (s.events + 1) ∷ []) m) [
      | inl o ↦ inr (c, o, u)
      | inr e ↦ elim e [ inl e ↦ absurd (subst (λ z. Among y (circuits_used z)) (sym e) u) | inr z ↦ absurd z ]
    ]

    pub key_all : Taken s y → Taken (keyed_in s line keyed) y
    key_all (inl r) = inl r
    key_all (inr (c, m, u)) = inr (c, among_left c s.calls _ m, u)

  module _ (h : Holds p s) where
    -- one call changes
    module _ (c : Call) (m : Among c s.calls) (f : Call → Call) where
      abbrev changed : State
      changed = record s { calls = set_call c.number f s.calls }

      set_only : (E : Type 0) → (Among y (circuits_used (f c)) → E ⊎ Among y (circuits_used c)) → Taken changed y → E ⊎ Taken s y
      set_only E back (inl r) = inr (inl r)
      set_only E back (inr (k, mk, u)) = elim (set_cases p s.calls s.releasing s.numbers h c m f k mk) [
        | inl o ↦ inr (inr (k, o.0, u))
        | inr e ↦ elim (back (subst (λ z. Among y (circuits_used z)) (sym e) u)) [ inl e ↦ inl e | inr v ↦ inr (inr (c, m, v)) ]
      ]

      set_mine : Among y (circuits_used (f c)) → Taken changed y
      set_mine u = inr (f c, subst (λ b. Among (if b then f c else c) (set_call c.number f s.calls)) (eq-eqb c.number c.number refl) (among_map (λ k. if k.number == c.number then f k else k) c s.calls m), u)

      set_all : (Among y (circuits_used c) → Among y (circuits_used (f c))) → Taken s y → Taken changed y
      set_all on (inl r) = inl r
      set_all on (inr (k, mk, u)) = at (k.number == c.number) refl (among_map (λ k. if k.number == c.number then f k else k) k s.calls mk)
        where
          at : (b : Bool) → (k.number == c.number) ≡ b → Among (if b then f k else k) (set_call c.number f s.calls) → Taken changed y
          at true e z = set_mine (on (subst (λ z. Among y (circuits_used z)) (h.one k c mk m (eqb-true _ _ e)) u))
          at false e z = inr (k, z, u)

    module _ (c : Call) (m : Among c s.calls) where
      -- the circuits of a call in another phase
      in_as : (a b : Phase) → a ≡ b → Among y (circuits_carried c ++ circuit_called a) → Among y (circuits_carried c ++ circuit_called b)
      in_as a b e u = subst (λ z. Among y (circuits_carried c ++ circuit_called z)) e u

      pub connect_only : c.phase ≡ Standing → (l : Line) → Taken (changed c m (in_phase (Connected l))) y → Taken s y
      connect_only e l t = elim (set_only c m (in_phase (Connected l)) ⊥ (λ u. inr (in_as Standing c.phase (sym e) u)) t) [ inl z ↦ absurd z | inr o ↦ o ]

      pub connect_all : c.phase ≡ Standing → (l : Line) → Taken s y → Taken (changed c m (in_phase (Connected l))) y
      connect_all e l t = set_all c m (in_phase (Connected l)) (λ u. in_as c.phase Standing e u) t

      pub seize_only : c.phase ≡ Standing → (x : Circuit) → Taken (changed c m (in_phase (Calling x))) y → (x ≡ y) ⊎ Taken s y
      seize_only e x t =
          set_only c m (in_phase (Calling x)) (x ≡ y) (λ u. elim (among_cases y (circuits_carried c) (x ∷ []) u) [
            | inl a ↦ inr (among_left y (circuits_carried c) (circuit_called c.phase) a)
            | inr b ↦ elim b [ inl q ↦ inl q | inr z ↦ absurd z ]
          ]) t

      pub seize_all : c.phase ≡ Standing → (x : Circuit) → (x ≡ y) ⊎ Taken s y → Taken (changed c m (in_phase (Calling x))) y
      seize_all e x (inl q) = set_mine c m (in_phase (Calling x)) (among_right y (circuits_carried c) (x ∷ []) (inl q))
      seize_all e x (inr t) = set_all c m (in_phase (Calling x)) (λ u. elim (among_cases y (circuits_carried c) [] (in_as c.phase Standing e u)) [ inl a ↦ among_left y (circuits_carried c) (x ∷ []) a | inr z ↦ absurd z ]) t

      -- the circuit that it had seized is one that it carries
      goes_used : (x : Circuit) (far : ℕ) → c.phase ≡ Calling x → circuits_used (carried_on x far c) ≡ circuits_used c
      goes_used x far e =
          append-nil (circuits_carried (carried_on x far c)) ∙ map_push (λ (h : Hop). h.circuit) c.hops (record { circuit = x; far = far })
          ∙ ap (λ z. circuits_carried c ++ circuit_called z) (sym e)

      pub carry_only : (x : Circuit) (far : ℕ) → c.phase ≡ Calling x → Taken (changed c m (carried_on x far)) y → Taken s y
      carry_only x far e t = elim (set_only c m (carried_on x far) ⊥ (λ u. inr (subst (λ l. Among y l) (goes_used x far e) u)) t) [ inl z ↦ absurd z | inr o ↦ o ]

      pub carry_all : (x : Circuit) (far : ℕ) → c.phase ≡ Calling x → Taken s y → Taken (changed c m (carried_on x far)) y
      carry_all x far e t = set_all c m (carried_on x far) (λ u. subst (λ l. Among y l) (sym (goes_used x far e)) u) t

      -- two calls that collide
      module _ (d : Call) (n : Among d s.calls) (x : Circuit) (e : c.phase ≡ Calling x) (o : d.phase ≡ Calling x) where
        abbrev either : Call → Bool
        either k = is_numbered c.number k || is_numbered d.number k

        abbrev thrown : Call → Call
        thrown k = if either k then thrown_back k else k

        calls_on : (k : Call) → Among k s.calls → either k ≡ true → k.phase ≡ Calling x
        calls_on k mk t = elim (or_cases (is_numbered c.number k) (is_numbered d.number k) t) [
          | inl q ↦ ap (λ (z : Call). z.phase) (h.one k c mk m (eqb-true _ _ q)) ∙ e
          | inr q ↦ ap (λ (z : Call). z.phase) (h.one k d mk n (eqb-true _ _ q)) ∙ o
        ]

        pub collide_only : Taken (collide c.number d.number x s) y → Taken s y
        collide_only (inl r) = elim (in_insert s.releasing x y r) [
          | inl q ↦ inr (c, m, among_right y (circuits_carried c) (circuit_called c.phase) (subst (λ z. Among y (circuit_called z)) (sym e) (inl (sym q))))
          | inr r ↦ inl r
        ]
        collide_only (inr (k, mk, u)) = let b = map_among thrown k s.calls mk in back b.0 b.1 (subst (λ z. Among y (circuits_used z)) (sym b.2) u)
          where
            back : (k : Call) → Among k s.calls → Among y (circuits_used (thrown k)) → Taken s y
            back k mk u = elim (either k) as (λ b. Among y (circuits_used (if b then thrown_back k else k)) → Taken s y) [
              | true ↦ λ u. elim (among_cases y (circuits_carried k) [] u) [ inl a ↦ inr (k, mk, among_left y (circuits_carried k) (circuit_called k.phase) a) | inr z ↦ absurd z ]
              | false ↦ λ u. inr (k, mk, u)
            ] u

        pub collide_all : Taken s y → Taken (collide c.number d.number x s) y
        collide_all (inl r) = inl (inserted s.releasing x y (inr r))
        collide_all (inr (k, mk, u)) = at (either k) refl (among_map thrown k s.calls mk)
          where
            at : (b : Bool) → either k ≡ b → Among (if b then thrown_back k else k) (map thrown s.calls) → Taken (collide c.number d.number x s) y
            at true t z = elim (among_cases y (circuits_carried k) (x ∷ []) (subst (λ q. Among y (circuits_carried k ++ circuit_called q)) (calls_on k mk t) u)) [
              | inl a ↦ inr (thrown_back k, z, among_left y (circuits_carried k) [] a)
              | inr b ↦ elim b [ inl q ↦ inl (inserted s.releasing x y (inl (sym q))) | inr w ↦ absurd w ]
            ]
            at false t z = inr (k, z, u)

    -- a circuit that is released is used by none
    module _ (x : Circuit) (r : set.contains s.releasing x ≡ true) where
      abbrev released : State
      released = record s { releasing = set.remove s.releasing x }

      unused : (c : Call) → Among c s.calls → Among x (circuits_used c) → ⊥
      unused c m u = elim (among_cases x (circuits_carried c) (circuit_called c.phase) u) [ inl a ↦ (h.idle x r c m).carried a | inr b ↦ called c.phase refl b ]
        where
          called : (phase : Phase) → c.phase ≡ phase → Among x (circuit_called phase) → ⊥
          called Standing e b = b
          called (Calling z) e (inl q) = (h.idle x r c m).seized (e ∙ ap Calling q)
          called (Calling z) e (inr w) = w
          called (Connected l) e b = b

      removed : set.contains (set.remove s.releasing x) y ≡ (not (same_circuit x y) && set.contains s.releasing y)
      removed = set.contains-remove circuits_total s.releasing x y ∙ ap (λ b. not b && set.contains s.releasing y) (circuit_tie x y)

      pub release_only : Taken released y → (not (same_circuit x y) ≡ true) × Taken s y
      release_only (inl q) = let t = and_parts (not (same_circuit x y)) (set.contains s.releasing y) (sym removed ∙ q) in (t.0, inl t.1)
      release_only (inr (c, m, u)) = (
        ap not (false_from_ne_true (same_circuit x y) (λ e. unused c m (subst (λ z. Among z (circuits_used c)) (sym (same_circuit-is x y e)) u))),
        inr (c, m, u),
      )

      pub release_all : (not (same_circuit x y) ≡ true) × Taken s y → Taken released y
      release_all (off, inl q) = inl (removed ∙ and_from _ _ off q)
      release_all (off, inr u) = inr u
