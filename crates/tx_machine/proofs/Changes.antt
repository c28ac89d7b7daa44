-- Each kind of change keeps the invariant.
use Rattle.tx_machine.proofs.Common.{◌≡◌, ◌≢◌, ℕ, ◌+◌, ◌≤◌, ◌==◌, Bool, true, false, not, ◌&&◌, ◌||◌, List, [], ◌∷◌, ◌++◌, ◌⊎◌, inl, inr, map, Some, None, refl, sym, ap, ◌∙◌, subst, eq-eqb, or_parts, and_from, not-true, both_ways, eqb-false, ne_eqb, cases_eq, false_from_ne_true, if◌then◌else◌, filter, unwrap_or, list_any, flat_map, eq_by_cmp, map_push, circuit_cmp, same_circuit, Plan, is_line, is_circuit, other_end, Among, Circuit, Line, among_cases, filter_among, flat_among, map_among, Cause, Hop, Phase, Standing, Calling, Connected, Call, start_of, exchange_of, circuit_called, is_numbered, State, circuits_carried, seizes, circuits_used, uses_group, seizes_from, is_calling_on, set_call, in_phase, takes_part, is_engaged, lines_of, given_up, end_calls, carried_on, thrown_back, collide, rival, far_of, keyed_call, failed_at, NoneTwice, IsKeyedLine, IsKept, AreApart, IsUnused, Inv, Holds}
use Rattle.std.specs.FinSet as set
use Rattle.tx_plan.proofs.Named.{same_circuit-is, same_circuit-itself, in_insert, in_remove, in_retain, in_union, by_cmp-is}
use Rattle.tx_machine.specs.declared.cause.Cause.TheVariants.{Lost as ByLoss}
use Rattle.tx_machine.proofs.Lists.{none_any, any_mem, find_none}
use Rattle.tx_machine.proofs.Uses.{not_seizing, not_taking, IsFree, joins_more, none_twice_push, no_third_end, two_ends}
use Rattle.tx_machine.proofs.Invariant.{inv_releasing, inv_filter, inv_more, inv_set, swapped, rising_map}

pub not_standing : {x : Circuit} → Standing ≡ Calling x → ⊥
not_standing e = cc

module _ (p : Plan) (s : State) (h : Holds p s) where
  -- A NEW CALL
  pub key_keeps : (line : Line) (keyed : List ℕ) (event : ℕ) → is_line p line ≡ true → is_engaged s line ≡ false → Inv p (s.calls ++ keyed_call (s.numbers + 1) line keyed event ∷ []) s.releasing (s.numbers + 1)
  key_keeps line keyed event known idle =
      inv_more p s.calls s.releasing s.numbers h (keyed_call (s.numbers + 1) line keyed event) refl
      (record {
        known = known;
        joined = tt;
        once = tt;
        own = λ x m e. m;
        planned = λ x e. absurd (not_standing e);
        calling = λ x e. absurd (not_standing e);
        connected = λ l e. let bad : ⊥ = cc in absurd bad;
        lines = (refl, tt);
      })
      (λ d m. record {
        carried = λ x a b. a;
        left = λ x a b. a;
        right = λ x e b. not_standing e;
        ends = λ x e f q. not_standing e;
        lines = λ l a b. elim a [ inl e ↦ not_taking d line (none_any (λ c. takes_part c line) s.calls d idle m) (subst (λ z. Among z (lines_of d)) (sym e) b) | inr z ↦ z ];
      })
      (λ x. record { carried = λ m. m; seized = λ e. not_standing e })

  -- CALLS THAT END
  pub end_keeps : (cause : Cause) (ends : Call → Bool) → Holds p (end_calls p cause ends s)
  end_keeps cause ends =
      inv_releasing p (filter (λ c. not (ends c)) s.calls) s.releasing s.numbers (inv_filter p s.calls s.releasing s.numbers h (λ c. not (ends c))) _ (λ x i c m. elim (in_union s.releasing _ x i) [
        | inl o ↦ h.idle x o c (filter_among (λ c. not (ends c)) c s.calls m).0
        | inr o ↦ given x (any_mem _ _ o) c m
      ])
    where
      used : (x : Circuit) (c e : Call) → Among x (circuits_used e) → Among c s.calls → Among e s.calls → c.number ≢ e.number → (c.phase ≡ Calling x → ⊥) → IsUnused c x
      used x c e u mc me ne unseized = record {
        carried = λ m. elim (among_cases x (circuits_carried e) (circuit_called e.phase) u) [
          | inl a ↦ (h.pairs c e mc me ne).carried x m a
          | inr b ↦ (h.pairs c e mc me ne).left x m (called e.phase b)
        ];
        seized = unseized;
      }
        where
          called : (phase : Phase) → Among x (circuit_called phase) → phase ≡ Calling x
          called Standing m = absurd m
          called (Calling y) (inl e) = ap Calling e
          called (Calling y) (inr m) = absurd m
          called (Connected l) m = absurd m

      given : (x : Circuit) → (y : Circuit) × Among y (given_up (filter ends s.calls) (filter (λ c. not (ends c)) s.calls)) × (eq_by_cmp circuit_cmp x y ≡ true) → (c : Call) → Among c (filter (λ c. not (ends c)) s.calls) → IsUnused c x
      given x (y, m, q) c k =
          let m' = subst (λ z. Among z (given_up (filter ends s.calls) (filter (λ c. not (ends c)) s.calls))) (sym (by_cmp-is x y q)) m in
          let r = filter_among (λ x. not (list_any (λ c. seizes c x) (filter (λ c. not (ends c)) s.calls))) x (flat_map circuits_used (filter ends s.calls)) m' in
          let u = flat_among circuits_used x (filter ends s.calls) r.0 in
          let e = filter_among ends u.0 s.calls u.1 in
          let c' = filter_among (λ c. not (ends c)) c s.calls k in
          used x c u.0 u.2 c'.0 e.0
          (λ same. both_ways (ends c) (not-true _ c'.1) (ap ends (h.one c u.0 c'.0 e.0 same) ∙ e.1))
          (not_seizing c x (none_any (λ c. seizes c x) (filter (λ c. not (ends c)) s.calls) c (not-true _ r.1) k))

  -- A GROUP THAT FAILS
  pub fail_keeps : (g : ℕ) → Holds p (failed_at p g s)
  fail_keeps g =
      let t = end_keeps ByLoss (uses_group g) in
      inv_releasing p _ _ s.numbers t _ (λ x i c m. t.idle x (in_retain _ _ x i) c m)

  pub release_keeps : (x : Circuit) → Inv p s.calls (set.remove s.releasing x) s.numbers
  release_keeps x = inv_releasing p s.calls s.releasing s.numbers h _ (λ y i c m. h.idle y (in_remove s.releasing x y i) c m)

  module _ (c : Call) (in' : Among c s.calls) where
    kept : IsKept p c
    kept = h.each c in'

    apart : (d : Call) → Among d s.calls → d.number ≢ c.number → AreApart p c d
    apart d m ne = h.pairs c d in' m (λ e. ne (sym e))

    -- A CALL THAT IS CONNECTED
    pub connect_keeps : (l : Line) → IsKeyedLine p c l → is_engaged s l ≡ false → Inv p (set_call c.number (in_phase (Connected l)) s.calls) s.releasing s.numbers
    connect_keeps l right idle =
        inv_set p s.calls s.releasing s.numbers h c in' (in_phase (Connected l)) refl
        (record {
          known = kept.known;
          joined = kept.joined;
          once = kept.once;
          own = λ x m e. let bad : ⊥ = cc in bad;
          planned = λ x e. let bad : ⊥ = cc in absurd bad;
          calling = λ x e. let bad : ⊥ = cc in absurd bad;
          connected = λ m e. let same : l ≡ m = cc in subst (IsKeyedLine p (in_phase (Connected l) c)) same (record { known = right.known; at_home = right.at_home; keyed = right.keyed });
          lines = (ap (λ b. b || false) (or_parts _ _ (free c in')).0, (refl, tt));
        })
        (λ d m ne. let a = apart d m ne in record {
          carried = a.carried;
          left = a.left;
          right = λ x e b. let bad : ⊥ = cc in bad;
          ends = λ x e f q. let bad : ⊥ = cc in bad;
          lines = λ k a' b. elim a' [
            | inl e ↦ a.lines k (inl e) b
            | inr z ↦ elim z [ inl e ↦ not_taking d l (free d m) (subst (λ z. Among z (lines_of d)) (sym e) b) | inr z ↦ z ]
          ];
        })
        (λ x i. record { carried = (h.idle x i c in').carried; seized = λ e. let bad : ⊥ = cc in bad })
      where
        free : (d : Call) → Among d s.calls → takes_part d l ≡ false
        free d m = none_any (λ d. takes_part d l) s.calls d idle m

    -- A CALL THAT SEIZES A CIRCUIT
    pub seize_keeps : (x : Circuit) (y : ℕ) → c.phase ≡ Standing → is_circuit p x ≡ true → other_end p x.group (exchange_of p c) ≡ Some y → IsFree p s (exchange_of p c) x → Inv p (set_call c.number (in_phase (Calling x)) s.calls) s.releasing s.numbers
    seize_keeps x y stands known to free =
        inv_set p s.calls s.releasing s.numbers h c in' (in_phase (Calling x)) refl
        (record {
          known = kept.known;
          joined = kept.joined;
          once = kept.once;
          own = λ z m e. let same : x ≡ z = cc in free.carried c in' (subst (λ z. Among z (circuits_carried c)) (sym same) m);
          planned = λ z e. let same : x ≡ z = cc in subst (λ w. is_circuit p w ≡ true) same known;
          calling = λ z e. let same : x ≡ z = cc in (y, ap (λ (w : Circuit). other_end p w.group (exchange_of p c)) (sym same) ∙ to);
          connected = λ l e. let bad : ⊥ = cc in absurd bad;
          lines = (refl, tt);
        })
        (λ d m ne. let a = apart d m ne in record {
          carried = a.carried;
          left = a.left;
          right = λ z e b. let same : x ≡ z = cc in free.carried d m (subst (λ z. Among z (circuits_carried d)) (sym same) b);
          ends = λ z e f q. let same : x ≡ z = cc in free.seized d m (f ∙ ap Calling (sym same)) (sym q);
          lines = λ k a' b. elim a' [ inl e ↦ a.lines k (inl e) b | inr z ↦ absurd z ];
        })
        (λ z i. record { carried = (h.idle z i c in').carried; seized = λ e. let same : x ≡ z = cc in free.releasing (ap (set.contains s.releasing) same ∙ i) })

    -- A CALL THAT GOES ON OVER ITS CIRCUIT
    pub carry_keeps : (x : Circuit) (far : ℕ) → c.phase ≡ Calling x → other_end p x.group (exchange_of p c) ≡ Some far → rival p s c x ≡ None → Inv p (set_call c.number (carried_on x far) s.calls) s.releasing s.numbers
    carry_keeps x far calls to alone =
        inv_set p s.calls s.releasing s.numbers h c in' (carried_on x far) refl
        (record {
          known = kept.known;
          joined = joins_more p (start_of p c) c.hops hop kept.joined (kept.planned x calls) to;
          once = subst (NoneTwice same_circuit) (sym (map_push (λ (h : Hop). h.circuit) c.hops hop)) (none_twice_push same_circuit (circuits_carried c) x kept.once (λ y m. new y m));
          own = λ z m e. not_standing e;
          planned = λ z e. absurd (not_standing e);
          calling = λ z e. absurd (not_standing e);
          connected = λ l e. let bad : ⊥ = cc in absurd bad;
          lines = (refl, tt);
        })
        (λ d m ne. let a = apart d m ne in record {
          carried = λ z u b. elim (cases z u) [ inl o ↦ a.carried z o b | inr e ↦ a.right z (calls ∙ ap Calling e) b ];
          left = λ z u e. elim (cases z u) [ inl o ↦ a.left z o e | inr q ↦ others d m ne (e ∙ ap Calling (sym q)) ];
          right = λ z e b. not_standing e;
          ends = λ z e f q. not_standing e;
          lines = λ k a' b. elim a' [ inl e ↦ a.lines k (inl e) b | inr z ↦ absurd z ];
        })
        (λ z i. record { carried = λ u. elim (cases z u) [ inl o ↦ (h.idle z i c in').carried o | inr e ↦ (h.idle z i c in').seized (calls ∙ ap Calling e) ]; seized = λ e. not_standing e })
      where
        hop : Hop
        hop = record { circuit = x; far = far }

        new : (y : Circuit) → Among y (circuits_carried c) → same_circuit y x ≡ false
        new y m = false_from_ne_true _ (λ e. kept.own x (subst (λ z. Among z (circuits_carried c)) (same_circuit-is y x e) m) calls)

        cases : (z : Circuit) → Among z (circuits_carried (carried_on x far c)) → Among z (circuits_carried c) ⊎ (x ≡ z)
        cases z u = elim (among_cases z (circuits_carried c) (x ∷ []) (subst (λ l. Among z l) (map_push (λ (h : Hop). h.circuit) c.hops (record { circuit = x; far = far })) u)) [ inl o ↦ inl o | inr q ↦ elim q [ inl e ↦ inr e | inr b ↦ absurd b ] ]

        others : (d : Call) → Among d s.calls → d.number ≢ c.number → d.phase ≡ Calling x → ⊥
        others d m ne e =
            let to' = (h.each d m).calling x e in
            let there : exchange_of p d ≡ far_of p c x = two_ends p x.group (exchange_of p c) (exchange_of p d) far to'.0 to to'.1 (λ q. (apart d m ne).ends x calls e q) ∙ sym (ap (λ o. unwrap_or o 0) to) in
            let seized = false_from_ne_true (seizes_from p d x (far_of p c x)) (λ t. both_ways _ (second (not (d.number == c.number)) (ap not (ne_eqb _ _ ne)) (find_none (λ d. not (d.number == c.number) && seizes_from p d x (far_of p c x)) s.calls d alone m)) t) in
            both_ways _ seized (and_from (seizes d x) (exchange_of p d == far_of p c x) (ap (λ phase. is_calling_on phase x) e ∙ same_circuit-itself x) (eq-eqb _ _ there))
          where
            second : (b : Bool) {a : Bool} → b ≡ true → (b && a) ≡ false → a ≡ false
            second b {a} t f = ap (λ b. b && a) (sym t) ∙ f

-- CALLS THAT ARE THROWN BACK
module _ (p : Plan) where
  back_kept : (c : Call) → IsKept p c → IsKept p (thrown_back c)
  back_kept c k = record {
    known = k.known;
    joined = k.joined;
    once = k.once;
    own = λ x m e. not_standing e;
    planned = λ x e. absurd (not_standing e);
    calling = λ x e. absurd (not_standing e);
    connected = λ l e. let bad : ⊥ = cc in absurd bad;
    lines = (refl, tt);
  }

  back_apart : (c d : Call) → AreApart p c d → AreApart p (thrown_back c) d
  back_apart c d a = record {
    carried = a.carried;
    left = a.left;
    right = λ x e m. not_standing e;
    ends = λ x e f q. not_standing e;
    lines = λ l m b. elim m [ inl e ↦ a.lines l (inl e) b | inr z ↦ z ];
  }

  module _ (test : Call → Bool) where
    back : Call → Call
    back k = if test k then thrown_back k else k

    backs : (Q : Call → Call → Type 0) → ((k : Call) → Q k k) → ((k : Call) → Q k (thrown_back k)) → (k : Call) → Q k (back k)
    unfolding back
    backs Q same thrown k = elim (test k) as (λ b. Q k (if b then thrown_back k else k)) [ true ↦ thrown k | false ↦ same k ]

  module _ (s : State) (h : Holds p s) (test : Call → Bool) where
    from_back : (k : Call) → Among k (map (back test) s.calls) → (j : Call) × Among j s.calls × (back test j ≡ k)
    from_back k m = map_among (back test) k s.calls m

    number_back : (k : Call) → (back test k).number ≡ k.number
    number_back k = backs test (λ j k. k.number ≡ j.number) (λ k. refl) (λ k. refl) k

    apart_back : (k d : Call) → AreApart p k d → AreApart p (back test k) d
    apart_back k d a = backs test (λ j k. AreApart p j d → AreApart p k d) (λ k a. a) (λ k a. back_apart k d a) k a

    unused_back : (k : Call) (x : Circuit) → IsUnused k x → IsUnused (back test k) x
    unused_back k x u = backs test (λ j k. IsUnused j x → IsUnused k x) (λ k u. u) (λ k u. record { carried = u.carried; seized = λ e. not_standing e }) k u

    back_keeps : Inv p (map (back test) s.calls) s.releasing s.numbers
    back_keeps = record {
      each = λ k m. let r = from_back k m in subst (IsKept p) r.2 (backs test (λ j k. IsKept p j → IsKept p k) (λ k i. i) back_kept r.0 (h.each r.0 r.1));
      pairs = λ k l m q ne.
          let r = from_back k m in let t = from_back l q in
          let apart : r.0.number ≢ t.0.number = λ e. ne (ap (λ (z : Call). z.number) (sym r.2) ∙ number_back r.0 ∙ e ∙ sym (number_back t.0) ∙ ap (λ (z : Call). z.number) t.2) in
          let a = apart_back r.0 t.0 (h.pairs r.0 t.0 r.1 t.1 apart) in
          let b = swapped (apart_back t.0 (back test r.0) (swapped a)) in
          subst (λ z. AreApart p z l) r.2 (subst (λ z. AreApart p (back test r.0) z) t.2 b);
      idle = λ x i k m. let r = from_back k m in subst (λ z. IsUnused z x) r.2 (unused_back r.0 x (h.idle x i r.0 r.1));
      one = λ k l m q e.
          let r = from_back k m in let t = from_back l q in
          sym r.2 ∙ ap (back test) (h.one r.0 t.0 r.1 t.1 (sym (number_back r.0) ∙ ap (λ (z : Call). z.number) r.2 ∙ e ∙ sym (ap (λ (z : Call). z.number) t.2) ∙ number_back t.0)) ∙ t.2;
      given = λ k m. let r = from_back k m in subst (λ z. z ≤ s.numbers) (sym (number_back r.0) ∙ ap (λ (z : Call). z.number) r.2) (h.given r.0 r.1);
      order = rising_map (back test) number_back s.calls h.order;
    }

  -- TWO CALLS THAT COLLIDE
  module _ (s : State) (h : Holds p s) (c d : Call) (mc : Among c s.calls) (md : Among d s.calls) (x : Circuit) (ne : d.number ≢ c.number) (ec : c.phase ≡ Calling x) (ed : d.phase ≡ Calling x) where
    either : Call → Bool
    either k = is_numbered c.number k || is_numbered d.number k

    not_carried_now : (k : Call) → Among k s.calls → Among x (circuits_carried k) → ⊥
    not_carried_now k m u = elim (cases_eq k.number c.number) [
      | inl e ↦ (h.each c mc).own x (subst (λ z. Among x (circuits_carried z)) (h.one k c m mc e) u) ec
      | inr n ↦ (h.pairs c k mc m (λ e. n (sym e))).right x ec u
    ]

    not_seized_now : (k : Call) → Among k s.calls → k.number ≢ c.number → k.number ≢ d.number → k.phase ≡ Calling x → ⊥
    not_seized_now k m n o e =
        let yc = (h.each c mc).calling x ec in let yd = (h.each d md).calling x ed in let yk = (h.each k m).calling x e in
        no_third_end p x.group (exchange_of p c) (exchange_of p d) (exchange_of p k) yc.0 yd.0 yk.0 yc.1 yd.1 yk.1
        ((h.pairs c d mc md (λ q. ne (sym q))).ends x ec ed)
        ((h.pairs c k mc m (λ q. n (sym q))).ends x ec e)
        ((h.pairs d k md m (λ q. o (sym q))).ends x ed e)

    unused_now : (k : Call) → Among k s.calls → IsUnused (back either k) x
    unfolding back either
    unused_now k m =
        elim (is_numbered c.number k) as (λ a. is_numbered c.number k ≡ a → IsUnused (if a || is_numbered d.number k then thrown_back k else k) x) [
          | true ↦ λ t. record { carried = not_carried_now k m; seized = λ e. not_standing e }
          | false ↦ λ t. elim (is_numbered d.number k) as (λ b. is_numbered d.number k ≡ b → IsUnused (if b then thrown_back k else k) x) [
            | true ↦ λ u. record { carried = not_carried_now k m; seized = λ e. not_standing e }
            | false ↦ λ u. record { carried = not_carried_now k m; seized = not_seized_now k m (eqb-false _ _ t) (eqb-false _ _ u) }
          ] refl
        ] refl

    pub collide_keeps : Holds p (collide c.number d.number x s)
    unfolding back either
    collide_keeps =
        let b = back_keeps s h either in
        inv_releasing p (map (back either) s.calls) s.releasing s.numbers b _ (λ y i k m. elim (in_insert s.releasing x y i) [
          | inl e ↦ let r = from_back s h either k m in subst (λ z. IsUnused k z) (sym e) (subst (λ z. IsUnused z x) r.2 (unused_now r.0 r.1))
          | inr o ↦ b.idle y o k m
        ])
