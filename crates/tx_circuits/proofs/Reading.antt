-- What the readers of the table answer, in terms of the groups.
use Rattle.tx_circuits.proofs.Common.{◌≡◌, ◌∙◌, ℕ, zero, suc, ◌<◌, inl, inr, Bool, true, false, cond, ◌==◌, List, [], ◌∷◌, ◌++◌, length, map, Option, Some, None, slice_index_or, refl, sym, ap, arith, slice_get, is_some, option_and_then, not, ◌&&◌, ◌||◌, nat_le, find, if◌then◌else◌, option_map, option_map_or, contains, nat_cmp_total, nat_cmp, slice_get-map, nat_tests, exact_unsigned, circuit_cmp, Circuit, circuits_total, exact_circuits, End, First, Other, CircuitState, GroupHead, has_seized, is_free, free_in, in_order, rising, falling, GroupState, state_at, entry_numbered, seizing_end, end_at, first_index, way_of, idle, Seat, seat_cmp, plan_of, is_free_at, is_down, first_free, those, group_of, circuits_of, seats_of, gathered_keys, is_marked, holds, sits, table_of}
use Rattle.tx_plan.specs.Circuits.{is_both, is_circuit, may_seize, may_seize_row, circuits_at, order_at, upward, downward}
use Rattle.tx_circuits.proofs.Columns.{column_at}
use Rattle.tx_circuits.proofs.FreeLists.{get_is}
use Rattle.tx_circuits.proofs.Ordered.{In, below}
use Rattle.tx_circuits.proofs.Members.{holds_in, sits_in, marked_in}
use Rattle.tx_circuits.proofs.Those.{contains_those}
use Rattle.tx_circuits.proofs.Seats.{seats_total, exact_seats}

-- THE SETS

pub contains_circuits : (test : CircuitState → Bool) (ts : List GroupState) (c : Circuit) → contains (those {R = circuit_cmp} (holds test ts) (gathered_keys circuits_of 0 ts)) c ≡ holds test ts c
contains_circuits test ts c = contains_those circuits_total exact_circuits (holds test ts) (gathered_keys circuits_of 0 ts) (holds_in test ts) c

pub contains_seats : (ts : List GroupState) (q : Seat) → contains (those {R = seat_cmp} (sits ts) (gathered_keys seats_of 0 ts)) q ≡ sits ts q
contains_seats ts q = contains_those seats_total exact_seats (sits ts) (gathered_keys seats_of 0 ts) (sits_in ts) q

pub contains_marks : (test : GroupHead → Bool) (ts : List GroupState) (g : ℕ) → contains (those {R = nat_cmp} (is_marked test ts) (rising (length ts))) g ≡ is_marked test ts g
contains_marks test ts g = contains_those nat_cmp_total exact_unsigned (is_marked test ts) (rising (length ts)) (marked_in test ts) g

-- THE PLAN

shift : (m n : ℕ) → nat_le (suc (suc m)) (suc n) ≡ nat_le (suc m) n
shift m n = grind (arith, nat_tests)

none_yet : nat_le 1 zero ≡ false
none_yet = grind (arith, nat_tests)

one_at_least : (m : ℕ) → nat_le 1 (suc m) ≡ true
one_at_least m = grind (arith, nat_tests)

pub circuit_known : (ts : List GroupState) (c : Circuit) → is_circuit (plan_of (table_of ts)) c ≡ is_some (state_at ts c)
circuit_known ts c = ap (λ o. option_map_or (λ r. nat_le 1 c.number && nat_le c.number r.count) o false) (slice_get-map group_of ts c.group) ∙ each (slice_get ts c.group)
  where
    inside : (xs : List CircuitState) (m : ℕ) → nat_le (suc m) (length xs) ≡ is_some (slice_get xs m)
    inside [] m = grind (arith, nat_tests)
    inside (x ∷ xs) zero = grind (arith, nat_tests)
    inside (x ∷ xs) (suc m) = shift m (length xs) ∙ inside xs m

    by_number : (xs : List CircuitState) (n : ℕ) → (nat_le 1 n && nat_le n (length xs)) ≡ is_some (entry_numbered xs n)
    by_number xs zero = ap (λ b. b && nat_le zero (length xs)) none_yet
    by_number xs (suc m) = ap (λ b. b && nat_le (suc m) (length xs)) (one_at_least m) ∙ inside xs m

    each : (o : Option GroupState) → option_map_or (λ r. nat_le 1 c.number && nat_le c.number r.count) (option_map group_of o) false ≡ is_some (option_and_then (λ t. entry_numbered t.states c.number) o)
    each None = refl
    each (Some t) = by_number t.states c.number

row_end : (t : GroupHead) (x : ℕ) (n : ℕ) → may_seize_row (record { name = []; a = t.a; b = t.b; direction = t.direction; count = n }) x ≡ is_some (seizing_end t x)
row_end t x n = elim (t.a == x) as (λ b. (b || (is_both t.direction && (t.b == x))) ≡ is_some (if b then Some First else if is_both t.direction && (t.b == x) then Some Other else None)) [
  | true ↦ refl
  | false ↦ elim (is_both t.direction && (t.b == x)) as (λ b. b ≡ is_some (end_if b)) [ true ↦ refl | false ↦ refl ]
]
  where
    end_if : Bool → Option End
    end_if b = if b then Some Other else None

pub end_known : (ts : List GroupState) (g x : ℕ) → may_seize (plan_of (table_of ts)) g x ≡ is_some (end_at ts g x)
end_known ts g x = ap (λ o. option_map_or (λ r. may_seize_row r x) o false) (slice_get-map group_of ts g) ∙ each (slice_get ts g)
  where
    each : (o : Option GroupState) → option_map_or (λ r. may_seize_row r x) (option_map group_of o) false ≡ is_some (option_and_then (λ t. seizing_end t.head x) o)
    each None = refl
    each (Some t) = row_end t.head x (length t.states)

-- THE FIRST FREE CIRCUIT

find_map : {A B : Type 0} (f : A → B) (p : B → Bool) (xs : List A) → find p (map f xs) ≡ option_map f (find (λ x. p (f x)) xs)
find_map f p [] = refl
find_map f p (x ∷ xs) = elim (p (f x)) as (λ b. cond b (Some (f x)) (find p (map f xs)) ≡ option_map f (cond b (Some x) (find (λ x. p (f x)) xs))) [ true ↦ refl | false ↦ find_map f p xs ]

find_alike : {A : Type 0} (p q : A → Bool) (xs : List A) → ((x : A) → In xs x → p x ≡ q x) → find p xs ≡ find q xs
find_alike p q [] each = refl
find_alike p q (x ∷ xs) each = λ i. cond (each x (inl refl) i) (Some x) (find_alike p q xs (λ y m. each y (inr m)) i)

pub find_in : {A : Type 0} (p : A → Bool) (xs : List A) (y : A) → find p xs ≡ Some y → In xs y × (p y ≡ true)
find_in {A} p [] y e = absurd cc
find_in {A} p (x ∷ xs) y e = elim (p x) as (λ b. p x ≡ b → cond b (Some x) (find p xs) ≡ Some y → In (x ∷ xs) y × (p y ≡ true)) [
  | true ↦ λ px h. let same : x ≡ y = ap (or_x x) h in (inl same, ap p (sym same) ∙ px)
  | false ↦ λ px h. let r = find_in p xs y h in (inr r.0, r.1)
] refl e
  where
    or_x : A → Option A → A
    or_x d None = d
    or_x d (Some w) = w

map_append : {A B : Type 0} (f : A → B) (xs ys : List A) → map f (xs ++ ys) ≡ map f xs ++ map f ys
map_append f [] ys = refl
map_append f (x ∷ xs) ys = ap (λ l. f x ∷ l) (map_append f xs ys)

ups : (n : ℕ) → upward n ≡ map suc (rising n)
ups zero = refl
ups (suc n) = ap (λ (l : List ℕ). l ++ suc n ∷ []) (ups n) ∙ sym (map_append suc (rising n) (n ∷ []))

downs : (n : ℕ) → downward n ≡ map suc (falling n)
downs zero = refl
downs (suc n) = ap (λ (l : List ℕ). suc n ∷ l) (downs n)

-- the order of an exchange is that of its end
order_is : (t : GroupHead) (x n : ℕ) (end : End) → seizing_end t x ≡ Some end
    → order_at (record { name = []; a = t.a; b = t.b; direction = t.direction; count = n }) x ≡ map suc (in_order (way_of end) n)
order_is t x n end h = elim (t.a == x) as (λ b. (if b then Some First else if is_both t.direction && (t.b == x) then Some Other else None) ≡ Some end → (if b then upward n else downward n) ≡ map suc (in_order (way_of end) n)) [
  | true ↦ λ e. ups n ∙ ap (λ (d : End). map suc (in_order (way_of d) n)) (ap (or_end First) e)
  | false ↦ λ e. elim (is_both t.direction && (t.b == x)) as (λ b. (if b then Some Other else None) ≡ Some end → downward n ≡ map suc (in_order (way_of end) n)) [
    | true ↦ λ f. downs n ∙ ap (λ (d : End). map suc (in_order (way_of d) n)) (ap (or_end Other) f)
    | false ↦ λ f. absurd cc
  ] e
] h
  where
    or_end : End → Option End → End
    or_end d None = d
    or_end d (Some w) = w

module _ (ts : List GroupState) (g x : ℕ) (t : GroupState) (at : slice_get ts g ≡ Some t) (end : End) (seizes : seizing_end t.head x ≡ Some end) where
  abbrev circuit : ℕ → Circuit
  circuit k = record { group = g; number = suc k }

  state_is : (k : ℕ) → k < length t.states → state_at ts (circuit k) ≡ Some (slice_index_or t.states k idle)
  state_is k h = ap (option_and_then (λ u. entry_numbered u.states (suc k))) at ∙ get_is t.states k idle h

  -- to be free at the exchange is to be free at its end
  free_is : (k : ℕ) → k < length t.states → is_free_at (table_of ts) x (circuit k) ≡ free_in end t.states k
  free_is k h =
      let s = slice_index_or t.states k idle in
      let part = λ (test : CircuitState → Bool). contains_circuits test ts (circuit k) ∙ ap (λ o. option_map_or test o false) (state_is k h) in
      let seat = contains_seats ts (circuit k, x) ∙ ap (λ o. option_map_or (λ e. holds (has_seized e) ts (circuit k)) o false) (ap (option_and_then (λ u. seizing_end u.head x)) at ∙ seizes)
      ∙ ap (λ o. option_map_or (has_seized end) o false) (state_is k h) in
      (λ i. not (part (λ z. z.carried) i) && (not (part (λ z. z.releasing) i) && (not (part (λ z. z.out) i) && not (seat i))))
      ∙ sym (column_at (is_free end) t.states k idle false h)

  pub first_is : is_down (table_of ts) g ≡ false → first_free (table_of ts) x g ≡ option_map circuit (first_index t end)
  first_is up =
      ap (λ b. if b then None else find (is_free_at (table_of ts) x) (circuits_at (plan_of (table_of ts)) g x)) up
      ∙ ap (find (is_free_at (table_of ts) x)) listed ∙ find_map (λ n. record { group = g; number = n }) (is_free_at (table_of ts) x) (map suc order)
      ∙ ap (option_map (λ n. record { group = g; number = n })) (find_map suc (λ n. is_free_at (table_of ts) x (record { group = g; number = n })) order) ∙ twice (find (λ k. is_free_at (table_of ts) x (circuit k)) order)
      ∙ ap (option_map circuit) (find_alike (λ k. is_free_at (table_of ts) x (circuit k)) (free_in end t.states) order (λ k m. free_is k (below (way_of end) (length t.states) k m)))
    where
      order : List ℕ
      order = in_order (way_of end) (length t.states)

      listed : circuits_at (plan_of (table_of ts)) g x ≡ map (λ n. record { group = g; number = n }) (map suc order)
      listed =
          ap (λ o. option_map_or (λ r. map (λ n. record { group = g; number = n }) (order_at r x)) o []) (slice_get-map group_of ts g ∙ ap (option_map group_of) at)
          ∙ ap (map (λ n. record { group = g; number = n })) (order_is t.head x (length t.states) end seizes)

      twice : (o : Option ℕ) → option_map (λ n. record { group = g; number = n }) (option_map suc o) ≡ option_map circuit o
      twice None = refl
      twice (Some k) = refl

  -- and it is one of the group's
  pub first_known : (k : ℕ) → first_index t end ≡ Some k → (is_circuit (plan_of (table_of ts)) (circuit k) ≡ true) × (is_free_at (table_of ts) x (circuit k) ≡ true)
  first_known k e =
      let r = find_in (free_in end t.states) (in_order (way_of end) (length t.states)) k e in
      let h = below (way_of end) (length t.states) k r.0 in
      (circuit_known ts (circuit k) ∙ ap is_some (state_is k h), free_is k h ∙ r.1)
