-- What the sets are after one circuit has got another state.
use Rattle.tx_circuits.proofs.Common.{◌≡◌, ◌≢◌, ◌∙◌, ℕ, zero, suc, ◌<◌, ◌⊎◌, inl, inr, Bool, true, false, List, [], ◌∷◌, length, map, Option, Some, None, refl, sym, ap, subst, arith, length-set, slice_get, option_and_then, not, ◌&&◌, option_map, option_map_or, insert, remove, retain, nat_cmp_total, nat_cmp, eqb_tells, exact_unsigned, and-true, and-false, same_circuit, circuit_cmp, Circuit, circuits_total, exact_circuits, same_circuit-is, same_circuit-itself, End, First, Other, CircuitState, GroupHead, has_seized, opposite, rising, GroupState, state_at, entry_numbered, set_numbered, seizing_end, end_at, with_state, change_at, Seat, seat_cmp, those, group_of, circuits_of, seats_of, gathered_keys, is_marked, holds, sits}
use Rattle.tx_circuits.proofs.FreeLists.{get-change_here, get-change_there, get-set_here, get-set_there}
use Rattle.tx_circuits.proofs.Members.{Known, holds_in, sits_in, marked_in, end_is}
use Rattle.tx_circuits.proofs.Seats.{seats_total, exact_seats}
use Rattle.tx_circuits.proofs.Those.{those_stay, those_inserted, those_removed, those_retained}

-- WHAT A CHANGE OF ONE GROUP LEAVES

module _ (f : GroupState → GroupState) (g : ℕ) (ts : List GroupState) where
  -- what reads the same of a changed group reads the same everywhere
  pub read_same : {B : Type 0} (v : GroupState → B) → ((t : GroupState) → v (f t) ≡ v t) → (h : ℕ) → option_map v (slice_get (change_at f g ts) h) ≡ option_map v (slice_get ts h)
  read_same v same h = elim (eqb_tells h g) [
    | inl e ↦ ap (λ (k : ℕ). option_map v (slice_get (change_at f g ts) k)) e.1 ∙ ap (option_map v) (get-change_here f ts g) ∙ through (slice_get ts g)
        ∙ ap (λ (k : ℕ). option_map v (slice_get ts k)) (sym e.1)
    | inr e ↦ ap (option_map v) (get-change_there f ts g h e.1)
  ]
    where
      through : (o : Option GroupState) → option_map v (option_map f o) ≡ option_map v o
      through None = refl
      through (Some t) = ap Some (same t)

  as_mapped : (test : GroupState → Bool) (o : Option GroupState) → option_map_or test o false ≡ option_map_or (λ b. b) (option_map test o) false
  as_mapped test None = refl
  as_mapped test (Some t) = refl

  joined : {B : Type 0} (v : GroupState → Option B) (o : Option GroupState) → option_and_then v o ≡ option_and_then (λ e. e) (option_map v o)
  joined v None = refl
  joined v (Some t) = refl

  pub test_same : (test : GroupState → Bool) → ((t : GroupState) → test (f t) ≡ test t) → (h : ℕ) → option_map_or test (slice_get (change_at f g ts) h) false ≡ option_map_or test (slice_get ts h) false
  test_same test same h =
      as_mapped test (slice_get (change_at f g ts) h) ∙ ap (λ o. option_map_or (λ b. b) o false) (read_same test same h) ∙ sym (as_mapped test (slice_get ts h))

  pub part_same : {B : Type 0} (v : GroupState → Option B) → ((t : GroupState) → v (f t) ≡ v t) → (h : ℕ) → option_and_then v (slice_get (change_at f g ts) h) ≡ option_and_then v (slice_get ts h)
  part_same v same h = joined v (slice_get (change_at f g ts) h) ∙ ap (option_and_then (λ e. e)) (read_same v same h) ∙ sym (joined v (slice_get ts h))

  pub marked_stay : (test : GroupHead → Bool) → ((t : GroupState) → test (f t).head ≡ test t.head)
      → those {R = nat_cmp} (is_marked test (change_at f g ts)) (rising (length (change_at f g ts))) ≡ those (is_marked test ts) (rising (length ts))
  marked_stay test same =
      those_stay nat_cmp_total exact_unsigned (is_marked test ts) (is_marked test (change_at f g ts)) (rising (length ts)) (rising (length (change_at f g ts))) (marked_in test ts)
      (marked_in test (change_at f g ts)) (test_same (λ t. test t.head) same)

  pub ends_same : ((t : GroupState) (x : ℕ) → seizing_end (f t).head x ≡ seizing_end t.head x) → (h x : ℕ) → end_at (change_at f g ts) h x ≡ end_at ts h x
  ends_same same h x = part_same (λ t. seizing_end t.head x) (λ t. same t x) h

pub map_same : {A B : Type 0} (v : A → B) (f : A → A) → ((x : A) → v (f x) ≡ v x) → (g : ℕ) (xs : List A) → map v (change_at f g xs) ≡ map v xs
map_same v f e g [] = refl
map_same v f e zero (x ∷ xs) = ap (λ b. b ∷ map v xs) (e x)
map_same v f e (suc g) (x ∷ xs) = ap (λ l. v x ∷ l) (map_same v f e g xs)

length-set_numbered : {A : Type 0} (xs : List A) (n : ℕ) (y : A) → length (set_numbered xs n y) ≡ length xs
length-set_numbered xs zero y = refl
length-set_numbered xs (suc n) y = simp length-set refl

numbered_there : {A : Type 0} (xs : List A) (n m : ℕ) (y : A) → m ≢ n → entry_numbered (set_numbered xs n y) m ≡ entry_numbered xs m
numbered_there xs zero m y ne = refl
numbered_there xs (suc n) zero y ne = refl
numbered_there xs (suc n) (suc m) y ne = get-set_there xs n m y (λ e. ne (ap suc e))

numbered_here : {A : Type 0} (xs : List A) (n k : ℕ) (y : A) → n ≡ suc k → k < length xs → entry_numbered (set_numbered xs n y) n ≡ Some y
numbered_here xs zero k y e h = absurd cc
numbered_here xs (suc n) k y e h = get-set_here xs n y (omega arith)

-- ONE CIRCUIT GETS ANOTHER STATE

module _ (ts : List GroupState) (c : Circuit) (known : Known ts c) (s to : CircuitState) (old : state_at ts c ≡ Some s) where
  abbrev pub after : List GroupState
  after = change_at (with_state c to) c.group ts

  pub state_here : state_at after c ≡ Some to
  state_here =
      ap (option_and_then (λ t. entry_numbered t.states c.number)) (get-change_here (with_state c to) ts c.group ∙ ap (option_map (with_state c to)) known.at)
      ∙ numbered_here known.group.states c.number known.index to known.number known.within

  state_there : (d : Circuit) → d ≢ c → state_at after d ≡ state_at ts d
  state_there d ne = elim (eqb_tells d.group c.group) [
    | inl e ↦
        ap (λ (g : ℕ). option_and_then (λ t. entry_numbered t.states d.number) (slice_get after g)) e.1
        ∙ ap (option_and_then (λ t. entry_numbered t.states d.number)) (get-change_here (with_state c to) ts c.group)
        ∙ through (slice_get ts c.group) (λ n. ne (λ i. record { group = e.1 i; number = n i }))
        ∙ ap (λ (g : ℕ). option_and_then (λ t. entry_numbered t.states d.number) (slice_get ts g)) (sym e.1)
    | inr e ↦ ap (option_and_then (λ t. entry_numbered t.states d.number)) (get-change_there (with_state c to) ts c.group d.group e.1)
  ]
    where
      through : (o : Option GroupState) → d.number ≢ c.number → option_and_then (λ t. entry_numbered t.states d.number) (option_map (with_state c to) o) ≡ option_and_then (λ t. entry_numbered t.states d.number) o
      through None n = refl
      through (Some t) n = numbered_there t.states c.number d.number to n

  pub groups_same : map group_of after ≡ map group_of ts
  groups_same = map_same group_of (with_state c to) (λ t i. record { name = []; a = t.head.a; b = t.head.b; direction = t.head.direction; count = length-set_numbered t.states c.number to i }) c.group ts

  pub heads_stay : (test : GroupHead → Bool) → those {R = nat_cmp} (is_marked test after) (rising (length after)) ≡ those (is_marked test ts) (rising (length ts))
  heads_stay test = marked_stay (with_state c to) c.group ts test (λ t. refl)

  module _ (test : CircuitState → Bool) where
    holds_there : (d : Circuit) → d ≢ c → holds test after d ≡ holds test ts d
    holds_there d ne = ap (λ o. option_map_or test o false) (state_there d ne)

    holds_here : holds test after c ≡ test to
    holds_here = ap (λ o. option_map_or test o false) state_here

    held_here : holds test ts c ≡ test s
    held_here = ap (λ o. option_map_or test o false) old

    pub circuits_stay : test to ≡ test s → those {R = circuit_cmp} (holds test after) (gathered_keys circuits_of 0 after) ≡ those (holds test ts) (gathered_keys circuits_of 0 ts)
    circuits_stay e =
        those_stay circuits_total exact_circuits (holds test ts) (holds test after) (gathered_keys circuits_of 0 ts) (gathered_keys circuits_of 0 after) (holds_in test ts) (holds_in test after)
        (λ d. elim (circuit_tells d) [ inl x ↦ ap (holds test after) x ∙ holds_here ∙ e ∙ sym held_here ∙ ap (holds test ts) (sym x) | inr ne ↦ holds_there d ne ])
      where
        circuit_tells : (d : Circuit) → (d ≡ c) ⊎ (d ≢ c)
        circuit_tells d = elim (same_circuit d c) as (λ b. same_circuit d c ≡ b → (d ≡ c) ⊎ (d ≢ c)) [
          | true ↦ λ e. inl (same_circuit-is d c e)
          | false ↦ λ e. inr (λ x. let bad : true ≡ false = sym (ap (λ z. same_circuit z c) x ∙ same_circuit-itself c) ∙ e in absurd cc)
        ] refl

    pub circuits_inserted : test to ≡ true → those {R = circuit_cmp} (holds test after) (gathered_keys circuits_of 0 after) ≡ insert (those (holds test ts) (gathered_keys circuits_of 0 ts)) c
    circuits_inserted e =
        those_inserted circuits_total exact_circuits (holds test ts) (holds test after) (gathered_keys circuits_of 0 ts) (gathered_keys circuits_of 0 after) (holds_in test ts) (holds_in test after)
        c holds_there (holds_here ∙ e)

    pub circuits_removed : test to ≡ false → those {R = circuit_cmp} (holds test after) (gathered_keys circuits_of 0 after) ≡ remove (those (holds test ts) (gathered_keys circuits_of 0 ts)) c
    circuits_removed e =
        those_removed circuits_total exact_circuits (holds test ts) (holds test after) (gathered_keys circuits_of 0 ts) (gathered_keys circuits_of 0 after) (holds_in test ts) (holds_in test after)
        c holds_there (holds_here ∙ e)

  -- the ends
  pub seats_there : (q : Seat) → q.0 ≢ c → sits after q ≡ sits ts q
  seats_there q ne =
      ap (λ o. option_map_or (λ end. holds (has_seized end) after q.0) o false) (ends_same (with_state c to) c.group ts (λ t x. refl) q.0.group q.1)
      ∙ each (end_at ts q.0.group q.1)
    where
      each : (o : Option End) → option_map_or (λ end. holds (has_seized end) after q.0) o false ≡ option_map_or (λ end. holds (has_seized end) ts q.0) o false
      each None = refl
      each (Some end) = holds_there (has_seized end) q.0 ne

  -- an end of this circuit
  pub seat_now : (x : ℕ) (o : Option End) → end_at ts c.group x ≡ o → sits after (c, x) ≡ option_map_or (λ end. has_seized end to) o false
  seat_now x None e = ap (λ o. option_map_or (λ end. holds (has_seized end) after c) o false) (ends_same (with_state c to) c.group ts (λ t x. refl) c.group x ∙ e)
  seat_now x (Some end) e =
      ap (λ o. option_map_or (λ end. holds (has_seized end) after c) o false) (ends_same (with_state c to) c.group ts (λ t x. refl) c.group x ∙ e) ∙ holds_here (has_seized end)

  seat_before : (x : ℕ) (o : Option End) → end_at ts c.group x ≡ o → sits ts (c, x) ≡ option_map_or (λ end. has_seized end s) o false
  seat_before x None e = ap (λ o. option_map_or (λ end. holds (has_seized end) ts c) o false) e
  seat_before x (Some end) e = ap (λ o. option_map_or (λ end. holds (has_seized end) ts c) o false) e ∙ held_here (has_seized end)

  circuit_is : (d : Circuit) → (d ≡ c) ⊎ (d ≢ c)
  circuit_is d = elim (same_circuit d c) as (λ b. same_circuit d c ≡ b → (d ≡ c) ⊎ (d ≢ c)) [
    | true ↦ λ e. inl (same_circuit-is d c e)
    | false ↦ λ e. inr (λ x. let bad : true ≡ false = sym (ap (λ z. same_circuit z c) x ∙ same_circuit-itself c) ∙ e in absurd cc)
  ] refl

  -- at this circuit the test of an exchange's end, at others as before
  seat_as : (q : Seat) → q.0 ≡ c → (o : Option End) → end_at ts c.group q.1 ≡ o → (P : Bool → Bool → Type 0) → P (option_map_or (λ end. has_seized end to) o false) (option_map_or (λ end. has_seized end s) o false)
      → P (sits after q) (sits ts q)
  seat_as q e o f P h =
      subst (λ (d : Circuit). P (sits after (d, q.1)) (sits ts (d, q.1))) (sym e)
      (subst (λ b. P b (sits ts (c, q.1))) (sym (seat_now q.1 o f)) (subst (P (option_map_or (λ end. has_seized end to) o false)) (sym (seat_before q.1 o f)) h))

  pub seats_stay : ((end : End) → has_seized end to ≡ has_seized end s) → those {R = seat_cmp} (sits after) (gathered_keys seats_of 0 after) ≡ those (sits ts) (gathered_keys seats_of 0 ts)
  seats_stay same =
      those_stay seats_total exact_seats (sits ts) (sits after) (gathered_keys seats_of 0 ts) (gathered_keys seats_of 0 after) (sits_in ts) (sits_in after) (λ q. elim (circuit_is q.0) [
        | inl e ↦ seat_as q e (end_at ts c.group q.1) refl (λ a b. a ≡ b) (each (end_at ts c.group q.1))
        | inr ne ↦ seats_there q ne
      ])
    where
      each : (o : Option End) → option_map_or (λ end. has_seized end to) o false ≡ option_map_or (λ end. has_seized end s) o false
      each None = refl
      each (Some end) = same end

  -- no end has seized it any more
  pub seats_cleared : ((end : End) → has_seized end to ≡ false) → those {R = seat_cmp} (sits after) (gathered_keys seats_of 0 after) ≡ retain (those (sits ts) (gathered_keys seats_of 0 ts)) (λ q. not (same_circuit q.0 c))
  seats_cleared none =
      those_retained seats_total exact_seats (sits ts) (sits after) (gathered_keys seats_of 0 ts) (gathered_keys seats_of 0 after) (sits_in ts) (sits_in after) (λ q. not (same_circuit q.0 c))
      (λ q. elim (same_circuit q.0 c) as (λ b. same_circuit q.0 c ≡ b → sits after q ≡ (sits ts q && not b)) [
        | true ↦ λ e. seat_as q (same_circuit-is q.0 c e) (end_at ts c.group q.1) refl (λ a b. a ≡ (b && false)) (each (end_at ts c.group q.1))
        | false ↦ λ e. seats_there q (λ x. let bad : true ≡ false = sym (ap (λ z. same_circuit z c) x ∙ same_circuit-itself c) ∙ e in absurd cc) ∙ sym (and-true (sits ts q))
      ] refl)
    where
      each : (o : Option End) → option_map_or (λ end. has_seized end to) o false ≡ (option_map_or (λ end. has_seized end s) o false && false)
      each None = refl
      each (Some end) = none end ∙ sym (and-false (has_seized end s))

  -- one end has changed
  module _ (x : ℕ) (end : End) (at : end_at ts c.group x ≡ Some end) (far : has_seized (opposite end) to ≡ has_seized (opposite end) s) where
    seat_rest : (q : Seat) → q ≢ (c, x) → sits after q ≡ sits ts q
    seat_rest q ne = elim (circuit_is q.0) [
      | inl e ↦ seat_as q e (end_at ts c.group q.1) refl (λ a b. a ≡ b) (each (end_at ts c.group q.1) refl (λ f. ne (λ i. (e i, f i))))
      | inr d ↦ seats_there q d
    ]
      where
        head_at : (z : ℕ) (o : Option End) → end_at ts c.group z ≡ o → seizing_end known.group.head z ≡ o
        head_at z o e = ap (option_and_then (λ t. seizing_end t.head z)) (sym known.at) ∙ e

        ends_apart : (e f : End) → q.1 ≢ x → ((e ≡ First) × (known.group.head.a ≡ q.1)) ⊎ ((e ≡ Other) × (known.group.head.b ≡ q.1))
            → ((f ≡ First) × (known.group.head.a ≡ x)) ⊎ ((f ≡ Other) × (known.group.head.b ≡ x)) → e ≡ opposite f
        ends_apart e f n (inl a) (inl b) = absurd (n (sym a.1 ∙ b.1))
        ends_apart e f n (inl a) (inr b) = a.0 ∙ ap opposite (sym b.0)
        ends_apart e f n (inr a) (inl b) = a.0 ∙ ap opposite (sym b.0)
        ends_apart e f n (inr a) (inr b) = absurd (n (sym a.1 ∙ b.1))

        each : (o : Option End) → end_at ts c.group q.1 ≡ o → q.1 ≢ x → option_map_or (λ end. has_seized end to) o false ≡ option_map_or (λ end. has_seized end s) o false
        each None e n = refl
        each (Some e) f n =
            subst (λ (y : End). has_seized y to ≡ has_seized y s)
            (sym (ends_apart e end n (end_is known.group.head q.1 e (head_at q.1 (Some e) f)) (end_is known.group.head x end (head_at x (Some end) at)))) far

    pub seats_inserted : has_seized end to ≡ true → those {R = seat_cmp} (sits after) (gathered_keys seats_of 0 after) ≡ insert (those (sits ts) (gathered_keys seats_of 0 ts)) (c, x)
    seats_inserted e =
        those_inserted seats_total exact_seats (sits ts) (sits after) (gathered_keys seats_of 0 ts) (gathered_keys seats_of 0 after) (sits_in ts) (sits_in after) (c, x) seat_rest (seat_now x (Some end) at ∙ e)

    pub seats_removed : has_seized end to ≡ false → those {R = seat_cmp} (sits after) (gathered_keys seats_of 0 after) ≡ remove (those (sits ts) (gathered_keys seats_of 0 ts)) (c, x)
    seats_removed e =
        those_removed seats_total exact_seats (sits ts) (sits after) (gathered_keys seats_of 0 ts) (gathered_keys seats_of 0 after) (sits_in ts) (sits_in after) (c, x) seat_rest (seat_now x (Some end) at ∙ e)
