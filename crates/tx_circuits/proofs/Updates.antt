-- Each change of the groups is one change of the sets.
use Rattle.tx_circuits.proofs.Common.{◌≡◌, ◌≢◌, ◌∙◌, ℕ, zero, suc, ◌<◌, inl, inr, Bool, true, false, ◌==◌, List, [], ◌∷◌, length, map, Option, Some, None, refl, sym, ap, subst, arith, slice_get, is_some, option_and_then, not, ◌&&◌, option_map, option_map_or, nat_cmp_total, nat_cmp, eqb_tells, exact_unsigned, circuit_cmp, Circuit, circuits_total, exact_circuits, End, First, Other, CircuitState, GroupHead, has_seized, with_seized, opposite, cleared_state, rising, GroupState, state_at, entry_numbered, seizing_end, end_at, with_state, with_failed, with_blocked, change_at, Seat, seat_cmp, Table, with_held, with_released, with_failure, those, group_of, circuits_of, seats_of, gathered_keys, is_marked, holds, sits, table_of, slice_get-map, length-map, and-true, and-false}
use Rattle.std.specs.FinSet.{FinSet, insert, remove, retain}
use Rattle.tx_circuits.proofs.FreeLists.{get-change_here, get-change_there, length-change}
use Rattle.tx_circuits.proofs.Members.{Known, known, holds_in, sits_in, marked_in}
use Rattle.tx_circuits.proofs.Those.{those_stay, those_inserted, those_removed, those_retained}
use Rattle.tx_circuits.proofs.Seats.{seats_total, exact_seats}
use Rattle.tx_circuits.proofs.Changes.{map_same, part_same, marked_stay, ends_same, groups_same, heads_stay, circuits_stay, circuits_inserted, circuits_removed, seats_stay, seats_cleared, seats_inserted, seats_removed}

-- A CIRCUIT GETS ANOTHER STATE

module _ (ts : List GroupState) (c : Circuit) (s : CircuitState) (old : state_at ts c ≡ Some s) where
  found : Known ts c
  found = known ts c (ap is_some old)

  module _ (to : CircuitState) where
    -- the fields one by one
    table_after : (releasing out carried : FinSet circuit_cmp) (seized : FinSet seat_cmp) → those (holds (λ s. s.releasing) (change_at (with_state c to) c.group ts)) (gathered_keys circuits_of 0 (change_at (with_state c to) c.group ts)) ≡ releasing
        → those (holds (λ s. s.out) (change_at (with_state c to) c.group ts)) (gathered_keys circuits_of 0 (change_at (with_state c to) c.group ts)) ≡ out
        → those (holds (λ s. s.carried) (change_at (with_state c to) c.group ts)) (gathered_keys circuits_of 0 (change_at (with_state c to) c.group ts)) ≡ carried
        → those (sits (change_at (with_state c to) c.group ts)) (gathered_keys seats_of 0 (change_at (with_state c to) c.group ts)) ≡ seized
        → table_of (change_at (with_state c to) c.group ts) ≡ record (table_of ts) { releasing = releasing; out = out; carried = carried; seized = seized }
    table_after releasing out carried seized e f g h = λ i. record {
      groups = groups_same ts c found s to old i;
      failed = heads_stay ts c found s to old (λ t. t.failed) i;
      blocked = heads_stay ts c found s to old (λ t. t.blocked) i;
      releasing = e i;
      out = f i;
      carried = g i;
      seized = h i;
    }

    stays : (test : CircuitState → Bool) → test to ≡ test s → those (holds test (change_at (with_state c to) c.group ts)) (gathered_keys circuits_of 0 (change_at (with_state c to) c.group ts)) ≡ those {R = circuit_cmp} (holds test ts) (gathered_keys circuits_of 0 ts)
    stays test e = circuits_stay ts c found s to old test e

  seizes : (end : End) (b : Bool) → (x : ℕ) → end_at ts c.group x ≡ Some end → (seized : FinSet seat_cmp)
      → those (sits (change_at (with_state c (with_seized end b s)) c.group ts)) (gathered_keys seats_of 0 (change_at (with_state c (with_seized end b s)) c.group ts)) ≡ seized
      → table_of (change_at (with_state c (with_seized end b s)) c.group ts) ≡ record (table_of ts) { seized = seized }
  seizes First b x e seized h = table_after (with_seized First b s) _ _ _ seized (stays (with_seized First b s) (λ s. s.releasing) refl) (stays (with_seized First b s) (λ s. s.out) refl) (stays (with_seized First b s) (λ s. s.carried) refl) h
  seizes Other b x e seized h = table_after (with_seized Other b s) _ _ _ seized (stays (with_seized Other b s) (λ s. s.releasing) refl) (stays (with_seized Other b s) (λ s. s.out) refl) (stays (with_seized Other b s) (λ s. s.carried) refl) h

  at_end : (end : End) (b : Bool) → has_seized end (with_seized end b s) ≡ b
  at_end First b = refl
  at_end Other b = refl

  far_end : (end : End) (b : Bool) → has_seized (opposite end) (with_seized end b s) ≡ has_seized (opposite end) s
  far_end First b = refl
  far_end Other b = refl

  pub seized_is : (end : End) (x : ℕ) → end_at ts c.group x ≡ Some end
      → table_of (change_at (with_state c (with_seized end true s)) c.group ts) ≡ record (table_of ts) { seized = insert (table_of ts).seized (c, x) }
  seized_is end x e = seizes end true x e _ (seats_inserted ts c found s (with_seized end true s) old x end e (far_end end true) (at_end end true))

  pub withdrawn_is : (end : End) (x : ℕ) → end_at ts c.group x ≡ Some end
      → table_of (change_at (with_state c (with_seized end false s)) c.group ts) ≡ record (table_of ts) { seized = remove (table_of ts).seized (c, x) }
  withdrawn_is end x e = seizes end false x e _ (seats_removed ts c found s (with_seized end false s) old x end e (far_end end false) (at_end end false))

  neither : (end : End) → has_seized end (record s { seized_first = false; seized_other = false; carried = true }) ≡ false
  neither First = refl
  neither Other = refl

  pub held_is : table_of (change_at (with_state c (record s { seized_first = false; seized_other = false; carried = true })) c.group ts) ≡ with_held (table_of ts) c
  held_is =
      let to : CircuitState = record s { seized_first = false; seized_other = false; carried = true } in
      table_after to _ _ _ _ (stays to (λ s. s.releasing) refl) (stays to (λ s. s.out) refl) (circuits_inserted ts c found s to old (λ s. s.carried) refl) (seats_cleared ts c found s to old neither)

  same_ends : (to : CircuitState) → to.seized_first ≡ s.seized_first → to.seized_other ≡ s.seized_other → (end : End) → has_seized end to ≡ has_seized end s
  same_ends to e f First = e
  same_ends to e f Other = f

  pub released_is : table_of (change_at (with_state c (record s { carried = false; releasing = true })) c.group ts) ≡ with_released (table_of ts) c
  released_is =
      let to : CircuitState = record s { carried = false; releasing = true } in
      table_after to _ _ _ _ (circuits_inserted ts c found s to old (λ s. s.releasing) refl) (stays to (λ s. s.out) refl) (circuits_removed ts c found s to old (λ s. s.carried) refl)
      (seats_stay ts c found s to old (same_ends to refl refl))

  pub confirmed_is : table_of (change_at (with_state c (record s { releasing = false })) c.group ts) ≡ record (table_of ts) { releasing = remove (table_of ts).releasing c }
  confirmed_is =
      let to : CircuitState = record s { releasing = false } in
      table_after to _ _ _ _ (circuits_removed ts c found s to old (λ s. s.releasing) refl) (stays to (λ s. s.out) refl) (stays to (λ s. s.carried) refl)
      (seats_stay ts c found s to old (same_ends to refl refl))

  pub put_out_is : table_of (change_at (with_state c (record s { out = true })) c.group ts) ≡ record (table_of ts) { out = insert (table_of ts).out c }
  put_out_is =
      let to : CircuitState = record s { out = true } in
      table_after to _ _ _ _ (stays to (λ s. s.releasing) refl) (circuits_inserted ts c found s to old (λ s. s.out) refl) (stays to (λ s. s.carried) refl)
      (seats_stay ts c found s to old (same_ends to refl refl))

  pub put_in_is : table_of (change_at (with_state c (record s { out = false })) c.group ts) ≡ record (table_of ts) { out = remove (table_of ts).out c }
  put_in_is =
      let to : CircuitState = record s { out = false } in
      table_after to _ _ _ _ (stays to (λ s. s.releasing) refl) (circuits_removed ts c found s to old (λ s. s.out) refl) (stays to (λ s. s.carried) refl)
      (seats_stay ts c found s to old (same_ends to refl refl))

-- A GROUP GETS A MARK

module _ (f : GroupState → GroupState) (g : ℕ) (ts : List GroupState) (states : (t : GroupState) → (f t).states ≡ t.states) where
  holds_same : (test : CircuitState → Bool) (c : Circuit) → holds test (change_at f g ts) c ≡ holds test ts c
  holds_same test c = ap (λ o. option_map_or test o false) (part_same f g ts (λ t. entry_numbered t.states c.number) (λ t. ap (λ l. entry_numbered l c.number) (states t)) c.group)

  pub circuits_same : (test : CircuitState → Bool) → those {R = circuit_cmp} (holds test (change_at f g ts)) (gathered_keys circuits_of 0 (change_at f g ts)) ≡ those (holds test ts) (gathered_keys circuits_of 0 ts)
  circuits_same test =
      those_stay circuits_total exact_circuits (holds test ts) (holds test (change_at f g ts)) (gathered_keys circuits_of 0 ts) (gathered_keys circuits_of 0 (change_at f g ts)) (holds_in test ts)
      (holds_in test (change_at f g ts)) (holds_same test)

  pub seats_same : ((t : GroupState) (x : ℕ) → seizing_end (f t).head x ≡ seizing_end t.head x)
      → those {R = seat_cmp} (sits (change_at f g ts)) (gathered_keys seats_of 0 (change_at f g ts)) ≡ those (sits ts) (gathered_keys seats_of 0 ts)
  seats_same ends =
      those_stay seats_total exact_seats (sits ts) (sits (change_at f g ts)) (gathered_keys seats_of 0 ts) (gathered_keys seats_of 0 (change_at f g ts)) (sits_in ts) (sits_in (change_at f g ts))
      (λ q. ap (λ o. option_map_or (λ end. holds (has_seized end) (change_at f g ts) q.0) o false) (ends_same f g ts ends q.0.group q.1) ∙ each q (end_at ts q.0.group q.1))
    where
      each : (q : Seat) (o : Option End) → option_map_or (λ end. holds (has_seized end) (change_at f g ts) q.0) o false ≡ option_map_or (λ end. holds (has_seized end) ts q.0) o false
      each q None = refl
      each q (Some end) = holds_same (has_seized end) q.0

module _ (ts : List GroupState) (g : ℕ) (in_it : g < length ts) (test : GroupHead → Bool) (f : GroupState → GroupState) where
  marked_rest : (h : ℕ) → h ≢ g → is_marked test (change_at f g ts) h ≡ is_marked test ts h
  marked_rest h ne = ap (λ o. option_map_or (λ t. test t.head) o false) (get-change_there f ts g h ne)

  marked_here : (b : Bool) → ((t : GroupState) → test (f t).head ≡ b) → is_marked test (change_at f g ts) g ≡ b
  marked_here b now = ap (λ o. option_map_or (λ t. test t.head) o false) (get-change_here f ts g) ∙ there (slice_get ts g) refl
    where
      there : (o : Option GroupState) → slice_get ts g ≡ o → option_map_or (λ t. test t.head) (option_map f o) false ≡ b
      there None e = absurd (none ts g in_it e)
        where
          none : (us : List GroupState) (k : ℕ) → k < length us → slice_get us k ≡ None → ⊥
          none [] k h e = (let bad = h in absurd (omega arith))
          none (u ∷ us) zero h e = absurd cc
          none (u ∷ us) (suc k) h e = none us k (omega arith) e
      there (Some t) e = now t

  pub mark_set : ((t : GroupState) → test (f t).head ≡ true) → those {R = nat_cmp} (is_marked test (change_at f g ts)) (rising (length (change_at f g ts))) ≡ insert (those (is_marked test ts) (rising (length ts))) g
  mark_set now =
      those_inserted nat_cmp_total exact_unsigned (is_marked test ts) (is_marked test (change_at f g ts)) (rising (length ts)) (rising (length (change_at f g ts))) (marked_in test ts)
      (marked_in test (change_at f g ts)) g marked_rest (marked_here true now)

  pub mark_taken : ((t : GroupState) → test (f t).head ≡ false) → those {R = nat_cmp} (is_marked test (change_at f g ts)) (rising (length (change_at f g ts))) ≡ remove (those (is_marked test ts) (rising (length ts))) g
  mark_taken now =
      those_removed nat_cmp_total exact_unsigned (is_marked test ts) (is_marked test (change_at f g ts)) (rising (length ts)) (rising (length (change_at f g ts))) (marked_in test ts)
      (marked_in test (change_at f g ts)) g marked_rest (marked_here false now)

module _ (ts : List GroupState) (g : ℕ) (in_it : g < length ts) where
  failed_after : (b : Bool) (failed : FinSet nat_cmp) → those (is_marked (λ t. t.failed) (change_at (with_failed b) g ts)) (rising (length (change_at (with_failed b) g ts))) ≡ failed
      → table_of (change_at (with_failed b) g ts) ≡ record (table_of ts) { failed = failed }
  failed_after b failed e = λ i. record {
    groups = map_same group_of (with_failed b) (λ t. refl) g ts i;
    failed = e i;
    blocked = marked_stay (with_failed b) g ts (λ t. t.blocked) (λ t. refl) i;
    releasing = circuits_same (with_failed b) g ts (λ t. refl) (λ s. s.releasing) i;
    out = circuits_same (with_failed b) g ts (λ t. refl) (λ s. s.out) i;
    carried = circuits_same (with_failed b) g ts (λ t. refl) (λ s. s.carried) i;
    seized = seats_same (with_failed b) g ts (λ t. refl) (λ t x. refl) i;
  }

  blocked_after : (b : Bool) (blocked : FinSet nat_cmp) → those (is_marked (λ t. t.blocked) (change_at (with_blocked b) g ts)) (rising (length (change_at (with_blocked b) g ts))) ≡ blocked
      → table_of (change_at (with_blocked b) g ts) ≡ record (table_of ts) { blocked = blocked }
  blocked_after b blocked e = λ i. record {
    groups = map_same group_of (with_blocked b) (λ t. refl) g ts i;
    failed = marked_stay (with_blocked b) g ts (λ t. t.failed) (λ t. refl) i;
    blocked = e i;
    releasing = circuits_same (with_blocked b) g ts (λ t. refl) (λ s. s.releasing) i;
    out = circuits_same (with_blocked b) g ts (λ t. refl) (λ s. s.out) i;
    carried = circuits_same (with_blocked b) g ts (λ t. refl) (λ s. s.carried) i;
    seized = seats_same (with_blocked b) g ts (λ t. refl) (λ t x. refl) i;
  }

  pub failed_is : table_of (change_at (with_failed true) g ts) ≡ record (table_of ts) { failed = insert (table_of ts).failed g }
  failed_is = failed_after true _ (mark_set ts g in_it (λ t. t.failed) (with_failed true) (λ t. refl))

  pub restored_is : table_of (change_at (with_failed false) g ts) ≡ record (table_of ts) { failed = remove (table_of ts).failed g }
  restored_is = failed_after false _ (mark_taken ts g in_it (λ t. t.failed) (with_failed false) (λ t. refl))

  pub blocked_is : table_of (change_at (with_blocked true) g ts) ≡ record (table_of ts) { blocked = insert (table_of ts).blocked g }
  blocked_is = blocked_after true _ (mark_set ts g in_it (λ t. t.blocked) (with_blocked true) (λ t. refl))

  pub unblocked_is : table_of (change_at (with_blocked false) g ts) ≡ record (table_of ts) { blocked = remove (table_of ts).blocked g }
  unblocked_is = blocked_after false _ (mark_taken ts g in_it (λ t. t.blocked) (with_blocked false) (λ t. refl))

-- ALL CALLS ARE TAKEN OFF A GROUP

abbrev pub clear_group : GroupState → GroupState
clear_group t = record t { states = map cleared_state t.states }

numbered_cleared : (xs : List CircuitState) (n : ℕ) → entry_numbered (map cleared_state xs) n ≡ option_map cleared_state (entry_numbered xs n)
numbered_cleared xs zero = refl
numbered_cleared xs (suc n) = slice_get-map cleared_state xs n

module _ (ts : List GroupState) (g : ℕ) where
  abbrev after : List GroupState
  after = change_at clear_group g ts

  states_there : (c : Circuit) → c.group ≢ g → state_at after c ≡ state_at ts c
  states_there c ne = ap (option_and_then (λ t. entry_numbered t.states c.number)) (get-change_there clear_group ts g c.group ne)

  states_here : (c : Circuit) → c.group ≡ g → state_at after c ≡ option_map cleared_state (state_at ts c)
  states_here c e =
      ap (λ (h : ℕ). option_and_then (λ t. entry_numbered t.states c.number) (slice_get after h)) e
      ∙ ap (option_and_then (λ t. entry_numbered t.states c.number)) (get-change_here clear_group ts g) ∙ through (slice_get ts g)
      ∙ ap (λ (h : ℕ). option_map cleared_state (option_and_then (λ t. entry_numbered t.states c.number) (slice_get ts h))) (sym e)
    where
      through : (o : Option GroupState) → option_and_then (λ t. entry_numbered t.states c.number) (option_map clear_group o) ≡ option_map cleared_state (option_and_then (λ t. entry_numbered t.states c.number) o)
      through None = refl
      through (Some t) = numbered_cleared t.states c.number

  module _ (test : CircuitState → Bool) where
    -- what a cleared circuit is not
    holds_off : ((s : CircuitState) → test (cleared_state s) ≡ false) → (c : Circuit) → holds test after c ≡ (holds test ts c && not (c.group == g))
    holds_off off c = elim (eqb_tells c.group g) [
      | inl e ↦ ap (λ o. option_map_or test o false) (states_here c e.1) ∙ none (state_at ts c) ∙ sym (and-false (holds test ts c)) ∙ sym (ap (λ b. holds test ts c && not b) e.0)
      | inr e ↦ ap (λ o. option_map_or test o false) (states_there c e.1) ∙ sym (and-true (holds test ts c)) ∙ sym (ap (λ b. holds test ts c && not b) e.0)
    ]
      where
        none : (o : Option CircuitState) → option_map_or test (option_map cleared_state o) false ≡ false
        none None = refl
        none (Some s) = off s

    -- what stays
    holds_on : ((s : CircuitState) → test (cleared_state s) ≡ test s) → (c : Circuit) → holds test after c ≡ holds test ts c
    holds_on on c = elim (eqb_tells c.group g) [
      | inl e ↦ ap (λ o. option_map_or test o false) (states_here c e.1) ∙ same (state_at ts c)
      | inr e ↦ ap (λ o. option_map_or test o false) (states_there c e.1)
    ]
      where
        same : (o : Option CircuitState) → option_map_or test (option_map cleared_state o) false ≡ option_map_or test o false
        same None = refl
        same (Some s) = on s

    circuits_off : ((s : CircuitState) → test (cleared_state s) ≡ false)
        → those {R = circuit_cmp} (holds test after) (gathered_keys circuits_of 0 after) ≡ retain (those (holds test ts) (gathered_keys circuits_of 0 ts)) (λ c. not (c.group == g))
    circuits_off off =
        those_retained circuits_total exact_circuits (holds test ts) (holds test after) (gathered_keys circuits_of 0 ts) (gathered_keys circuits_of 0 after) (holds_in test ts) (holds_in test after)
        (λ c. not (c.group == g)) (holds_off off)

    circuits_on : ((s : CircuitState) → test (cleared_state s) ≡ test s) → those {R = circuit_cmp} (holds test after) (gathered_keys circuits_of 0 after) ≡ those (holds test ts) (gathered_keys circuits_of 0 ts)
    circuits_on on =
        those_stay circuits_total exact_circuits (holds test ts) (holds test after) (gathered_keys circuits_of 0 ts) (gathered_keys circuits_of 0 after) (holds_in test ts) (holds_in test after) (holds_on on)

  not_seized : (end : End) (s : CircuitState) → has_seized end (cleared_state s) ≡ false
  not_seized First s = refl
  not_seized Other s = refl

  seats_off : those {R = seat_cmp} (sits after) (gathered_keys seats_of 0 after) ≡ retain (those (sits ts) (gathered_keys seats_of 0 ts)) (λ q. not (q.0.group == g))
  seats_off =
      those_retained seats_total exact_seats (sits ts) (sits after) (gathered_keys seats_of 0 ts) (gathered_keys seats_of 0 after) (sits_in ts) (sits_in after) (λ q. not (q.0.group == g))
      (λ q. ap (λ o. option_map_or (λ end. holds (has_seized end) after q.0) o false) (ends_same clear_group g ts (λ t x. refl) q.0.group q.1) ∙ each q (end_at ts q.0.group q.1))
    where
      each : (q : Seat) (o : Option End) → option_map_or (λ end. holds (has_seized end) after q.0) o false ≡ (option_map_or (λ end. holds (has_seized end) ts q.0) o false && not (q.0.group == g))
      each q None = refl
      each q (Some end) = holds_off (has_seized end) (not_seized end) q.0

  pub cleared_is : table_of after ≡ record (table_of ts) {
    releasing = retain (table_of ts).releasing (λ c. not (c.group == g));
    carried = retain (table_of ts).carried (λ c. not (c.group == g));
    seized = retain (table_of ts).seized (λ q. not (q.0.group == g));
  }
  cleared_is = λ i. record {
    groups = map_same group_of clear_group (λ t i. record { name = []; a = t.head.a; b = t.head.b; direction = t.head.direction; count = length-map t.states cleared_state i }) g ts i;
    failed = marked_stay clear_group g ts (λ t. t.failed) (λ t. refl) i;
    blocked = marked_stay clear_group g ts (λ t. t.blocked) (λ t. refl) i;
    releasing = circuits_off (λ s. s.releasing) (λ s. refl) i;
    out = circuits_on (λ s. s.out) (λ s. refl) i;
    carried = circuits_off (λ s. s.carried) (λ s. refl) i;
    seized = seats_off i;
  }

  -- a group fails
  pub failure_is : g < length ts → table_of (change_at (with_failed true) g (change_at clear_group g ts)) ≡ with_failure (table_of ts) g
  failure_is in_it =
      failed_is after g (subst (λ (n : ℕ). g < n) (sym (length-change clear_group g ts)) in_it)
      ∙ ap (λ (t : Table). record t { failed = insert t.failed g }) cleared_is
