-- The groups lie one after another in the vector: a write to one leaves the others.
use Rattle.tx_circuits.proofs.Common.{◌≡◌, ◌≢◌, ◌∙◌, ℕ, zero, suc, ◌+◌, ◌-◌, ◌<◌, ◌≤◌, inl, inr, true, List, [], ◌∷◌, ◌++◌, length, map, take, drop, Some, slice_index_or, slice_set, refl, sym, ap, subst, arith, slice_get, is_some, replicate, option_map, eqb_tells, length-map-range_with_len, slice_get-map, slice_get_within, Slot, End, Row, GroupHead, state_of, list_of, list_of_all, IsSound, GroupState, group_slots, group_state, entry_numbered, set_numbered, change_at, idle, free_slot, AreKept, AreApart, IsAppended}
use Rattle.std.specs.List.{between, range_with_len}
use Rattle.std.proofs.lemmas.List.{length-map, take_all, drop_at, take-append-le, length-append, map_push}
use Rattle.std.proofs.lemmas.List.Edits.{length-between, get_or-between}
use Rattle.std.proofs.lemmas.Slice.{between_is, take-put_mid_below, drop-put_mid, between-put_mid}
use borrow.Rule.Slice.PartMut.{put_mid}
use Rattle.tx_circuits.proofs.AllFree.{all_idle, all_sound}
use Rattle.tx_circuits.proofs.Linked.{le_or}
use Rattle.tx_circuits.proofs.FreeLists.{get_is, get-set_here, get-set_there, some_is, pushed_is, map-set_change}

-- THE SLOTS OF A GROUP

pub slots_length : (slots : List Slot) (r : Row) → r.start + r.count ≤ length slots → length (group_slots slots r) ≡ r.count
slots_length slots r h = (let a : length (group_slots slots r) ≡ r.start + r.count - r.start = length-between slots r.start (r.start + r.count) h in omega arith)

-- after a write to the part of the vector from a on, k long
module _ (slots : List Slot) (a k : ℕ) (ys : List Slot) (in_it : a + k ≤ length slots) (long : length ys ≡ k) where
  pub slots_before : (s : Row) → s.start + s.count ≤ a → group_slots (put_mid a k slots ys) s ≡ group_slots slots s
  slots_before s h =
      between_is (put_mid a k slots ys) s.start (s.start + s.count) ∙ ap (drop s.start) (take-put_mid_below a k slots ys (s.start + s.count) h (omega arith))
      ∙ sym (between_is slots s.start (s.start + s.count))

  pub slots_after : (s : Row) → a + k ≤ s.start → group_slots (put_mid a k slots ys) s ≡ group_slots slots s
  slots_after s h = ap (take (s.start + s.count - s.start)) (drop-put_mid a k slots ys s.start h (omega arith) long)

  pub slots_here : (s : Row) → s.start ≡ a → s.count ≡ k → group_slots (put_mid a k slots ys) s ≡ ys
  slots_here s e f =
      ap (λ (x : ℕ × ℕ). between x.0 x.1 (put_mid a k slots ys)) (λ i. (e i, e i + f i)) ∙ between-put_mid a k slots ys (a + k) (omega arith) (let b : length ys ≡ k = long in omega arith)

-- the slots of a group apart from the part
pub apart_same : (slots : List Slot) (r : Row) (ys : List Slot) → r.start + r.count ≤ length slots → length ys ≡ r.count → (s : Row) → AreApart r s
    → group_slots (put_mid r.start r.count slots ys) s ≡ group_slots slots s
apart_same slots r ys h long s (inl a) = slots_after slots r.start r.count ys h long s a
apart_same slots r ys h long s (inr b) = slots_before slots r.start r.count ys h long s b

-- as a write to the part leaves them
module _ (slots : List Slot) (r : Row) (ys : List Slot) (h : r.start + r.count ≤ length slots) (long : length ys ≡ r.count) where
  less : r.start + r.count - r.start ≡ r.count
  less = omega arith

  pub part_here : group_slots (put_mid r.start (r.start + r.count - r.start) slots ys) r ≡ ys
  part_here = ap (λ (k : ℕ). group_slots (put_mid r.start k slots ys) r) less ∙ slots_here slots r.start r.count ys h long r refl refl

  pub part_apart : (s : Row) → AreApart r s → group_slots (put_mid r.start (r.start + r.count - r.start) slots ys) s ≡ group_slots slots s
  part_apart s a = ap (λ (k : ℕ). group_slots (put_mid r.start k slots ys) s) less ∙ apart_same slots r ys h long s a

-- THE ENTRY OF A GROUP

pub entry_at : (slots : List Slot) (rows : List Row) (now : List GroupState) (g i : ℕ) (row : Row) → map (group_state slots) rows ≡ now → i ≡ g → row ≡ slice_index_or rows i row → g < length now
    → slice_get rows i ≡ Some row
entry_at slots rows now g i row view is value h =
    let a : length (map (group_state slots) rows) ≡ length rows = length-map rows (group_state slots) in
    let b : length (map (group_state slots) rows) ≡ length now = ap length view in
    get_is rows i row (omega arith) ∙ ap Some (sym value)

-- one group gets other slots, free lists or marks
module _ (slots : List Slot) (rows : List Row) (kept : AreKept slots rows) (g : ℕ) (r : Row) (at : slice_get rows g ≡ Some r) where
  pub others : (slots' : List Slot) → ((s : Row) → AreApart r s → group_slots slots' s ≡ group_slots slots s) → (h : ℕ) (s : Row) → h ≢ g → slice_get rows h ≡ Some s
      → group_slots slots' s ≡ group_slots slots s
  others slots' rest h s ne e = elim (le_or h g) [
    | inl le ↦ rest s (inr (kept.apart h g s r e at (omega arith)))
    | inr lt ↦ rest s (inl (kept.apart g h r s at e lt))
  ]

  module _ (slots' : List Slot) (r' : Row) (start : r'.start ≡ r.start) (count : r'.count ≡ r.count) (long : length slots' ≡ length slots)
      (sound : IsSound (group_slots slots' r') r'.lists) (rest : (h : ℕ) (s : Row) → h ≢ g → slice_get rows h ≡ Some s → group_slots slots' s ≡ group_slots slots s) where
    -- a row of the new list stands for one of the old list
    record Stands (h : ℕ) (s : Row) : Type 0 where
      old : Row
      was : slice_get rows h ≡ Some old
      same_start : s.start ≡ old.start
      same_count : s.count ≡ old.count
      still : IsSound (group_slots slots' s) s.lists

    stands : (h : ℕ) (s : Row) → slice_get (slice_set rows g r') h ≡ Some s → Stands h s
    stands h s e = elim (eqb_tells h g) [
      | inl x ↦ (
          let here : slice_get (slice_set rows g r') g ≡ Some r' = get-set_here rows g r' (slice_get_within rows g r at) in
          let same : r' ≡ s = some_is r' s (sym here ∙ ap (slice_get (slice_set rows g r')) (sym x.1) ∙ e) in
          subst (Stands h) same (record { old = r; was = ap (slice_get rows) x.1 ∙ at; same_start = start; same_count = count; still = sound }))
      | inr x ↦ (
          let was = sym (get-set_there rows g h r' x.1) ∙ e in
          record { old = s; was = was; same_start = refl; same_count = refl; still = subst (λ (l : List Slot). IsSound l s.lists) (sym (rest h s x.1 was)) (kept.sound h s was) })
    ]

    pub kept_after : AreKept slots' (slice_set rows g r')
    kept_after = record {
      within = λ h s e. let t = stands h s e in let a : t.old.start + t.old.count ≤ length slots = kept.within h t.old t.was in
          let b : s.start ≡ t.old.start = t.same_start in let d : s.count ≡ t.old.count = t.same_count in omega arith;
      apart = λ h k s u e f lt. let t = stands h s e in let v = stands k u f in
          let a : t.old.start + t.old.count ≤ v.old.start = kept.apart h k t.old v.old t.was v.was lt in
          let b : s.start ≡ t.old.start = t.same_start in let d : s.count ≡ t.old.count = t.same_count in let x : u.start ≡ v.old.start = v.same_start in omega arith;
      sound = λ h s e. (stands h s e).still;
    }

-- ONE GROUP MORE

pub grown_before : (slots more : List Slot) (s : Row) → s.start + s.count ≤ length slots → group_slots (slots ++ more) s ≡ group_slots slots s
grown_before slots more s h =
    between_is (slots ++ more) s.start (s.start + s.count) ∙ ap (drop s.start) (take-append-le (s.start + s.count) slots more h) ∙ sym (between_is slots s.start (s.start + s.count))

pub grown_here : (slots more : List Slot) (s : Row) → s.start ≡ length slots → s.count ≡ length more → group_slots (slots ++ more) s ≡ more
grown_here slots more s e f =
    ap (take (s.start + s.count - s.start)) (drop_at slots more s.start (sym e)) ∙ take_all (s.start + s.count - s.start) more (omega arith)

module _ (slots rest : List Slot) (rows : List Row) (kept : AreKept slots rows) (longer : length slots ≤ length rest)
    (same : (s : Row) → s.start + s.count ≤ length slots → group_slots rest s ≡ group_slots slots s) where
  pub kept_grown : AreKept rest rows
  kept_grown = record {
    within = λ g r e. let a : r.start + r.count ≤ length slots = kept.within g r e in omega arith;
    apart = kept.apart;
    sound = λ g r e. subst (λ (l : List Slot). IsSound l r.lists) (sym (same r (kept.within g r e))) (kept.sound g r e);
  }

  pub views_same : map (group_state rest) rows ≡ map (group_state slots) rows
  views_same = each rows (λ g r e. same r (kept.within g r e))
    where
      each : (rs : List Row) → ((g : ℕ) (r : Row) → slice_get rs g ≡ Some r → group_slots rest r ≡ group_slots slots r) → map (group_state rest) rs ≡ map (group_state slots) rs
      each [] h = refl
      each (r ∷ rs) h = λ i. record { head = r.head; states = map state_of (h zero r refl i) } ∷ each rs (λ g s e. h (suc g) s e) i

  pub kept_push : (row : Row) → row.start ≡ length slots → row.start + row.count ≤ length rest → IsSound (group_slots rest row) row.lists → AreKept rest (rows ++ row ∷ [])
  kept_push row start fits sound = record {
    within = λ g r e. elim (pushed_is rows row g r e) [
      | inl a ↦ (let b : r.start + r.count ≤ length slots = kept.within g r a in omega arith)
      | inr b ↦ subst (λ (s : Row). s.start + s.count ≤ length rest) b.1 fits
    ];
    apart = λ g h r s e f lt. elim (pushed_is rows row g r e) [
      | inl a ↦ elim (pushed_is rows row h s f) [
        | inl b ↦ kept.apart g h r s a b lt
        | inr b ↦ (let d : r.start + r.count ≤ length slots = kept.within g r a in let x : row.start ≡ s.start = ap (λ (z : Row). z.start) b.1 in omega arith)
      ]
      | inr a ↦ absurd (let d : h < length (rows ++ row ∷ []) = slice_get_within (rows ++ row ∷ []) h s f in let n : length (rows ++ row ∷ []) ≡ length rows + 1 = length-append rows (row ∷ []) in
          let x : g ≡ length rows = a.0 in omega arith)
    ];
    sound = λ g r e. elim (pushed_is rows row g r e) [
      | inl a ↦ kept_grown.sound g r a
      | inr b ↦ subst (λ (s : Row). IsSound (group_slots rest s) s.lists) b.1 sound
    ];
  }

-- WHERE A CIRCUIT IS

pub number_in : {A : Type 0} (xs : List A) (n : ℕ) → is_some (entry_numbered xs n) ≡ true → (m : ℕ) × (n ≡ suc m) × (m < length xs)
number_in {A} xs zero h = absurd cc
number_in {A} xs (suc m) h = (m, refl, inside xs m h)
  where
    inside : (ys : List A) (m : ℕ) → is_some (slice_get ys m) ≡ true → m < length ys
    inside [] m h = absurd cc
    inside (y ∷ ys) zero h = omega arith
    inside (y ∷ ys) (suc m) h = (let a : m < length ys = inside ys m h in omega arith)

-- a slot of a group, in the vector
pub slot_at : (slots : List Slot) (r : Row) (m : ℕ) (d : Slot) → r.start + r.count ≤ length slots → m < r.count → slice_get (map state_of (group_slots slots r)) m ≡ Some (slice_index_or slots (r.start + m) d).state
slot_at slots r m d h lt =
    let long = slots_length slots r h in
    slice_get-map state_of (group_slots slots r) m ∙ ap (option_map state_of) (get_is (group_slots slots r) m d (omega arith))
    ∙ ap (λ (s : Slot). Some s.state) (get_or-between slots r.start (r.start + r.count) m d (omega arith))

-- A GROUP'S ROW GETS OTHER LISTS

module _ (slots : List Slot) (rows : List Row) (now : List GroupState) (kept : AreKept slots rows) (view : map (group_state slots) rows ≡ now) (g i : ℕ) (is : i ≡ g) (row : Row) (at : slice_get rows i ≡ Some row)
    (new : List Slot) (long : length new ≡ length slots) (result : Row) (row_is : result ≡ record row { lists = result.lists }) (sound : IsSound (group_slots new row) result.lists)
    (rest : (s : Row) → AreApart row s → group_slots new s ≡ group_slots slots s) where
  pub kept_updated : AreKept new (slice_set rows i result)
  kept_updated =
      kept_after slots rows kept i row at new result (ap (λ (r : Row). r.start) row_is) (ap (λ (r : Row). r.count) row_is) long
      (subst (λ (r : Row). IsSound (group_slots new r) result.lists) (sym row_is) sound) (others slots rows kept i row at new rest)

  pub view_updated : (f : GroupState → GroupState) → record { head = row.head; states = map state_of (group_slots new row) } ≡ f (group_state slots row)
      → map (group_state new) (slice_set rows i result) ≡ change_at f g now
  view_updated f e =
      map-set_change (group_state slots) (group_state new) f rows i row result at (ap (group_state new) row_is ∙ e)
      (λ h s ne at_h j. record { head = s.head; states = map state_of (others slots rows kept i row at new rest h s ne at_h j) }) ∙ (λ j. change_at f (is j) (view j))

pub set_numbered_at : {A : Type 0} (xs : List A) (n : ℕ) (y : A) → 0 < n → slice_set xs (n - 1) y ≡ set_numbered xs n y
set_numbered_at xs zero y h = absurd (omega arith)
set_numbered_at xs (suc n) y h = ap (λ (k : ℕ). slice_set xs k y) (less_one n)
  where
    less_one : (n : ℕ) → suc n - 1 ≡ n
    less_one n = omega arith

pub numbered_at : {A : Type 0} (xs : List A) (n : ℕ) → 0 < n → entry_numbered xs n ≡ slice_get xs (n - 1)
numbered_at xs zero h = absurd (omega arith)
numbered_at xs (suc n) h = ap (slice_get xs) (more_one n)
  where
    more_one : (n : ℕ) → n ≡ suc n - 1
    more_one n = omega arith

pub view_at : (slots : List Slot) (rows : List Row) (now : List GroupState) (g i : ℕ) (row : Row) → map (group_state slots) rows ≡ now → i ≡ g → slice_get rows i ≡ Some row
    → slice_get now g ≡ Some (group_state slots row)
view_at slots rows now g i row view is at = (λ j. slice_get (sym view j) (sym is j)) ∙ slice_get-map (group_state slots) rows i ∙ ap (option_map (group_state slots)) at

-- A GROUP IS ADDED

-- its slots are made
module _ (slots : List Slot) (row : Row) (start : row.start ≡ length slots) (short : row.count ≤ 240) (heads : (end : End) → list_of end row.lists ≡ list_of_all row.count) where
  abbrev more : List Slot
  more = map (free_slot row.count) (range_with_len 0 row.count)

  here : group_slots (slots ++ more) row ≡ more
  here = grown_here slots more row start (sym (length-map-range_with_len (free_slot row.count) 0 row.count))

  pub appended : IsAppended slots (slots ++ more) row.head row.count row
  appended = record {
    head_is = refl;
    start_is = start;
    count_is = refl;
    grown = length-append slots more ∙ ap (λ (n : ℕ). length slots + n) (length-map-range_with_len (free_slot row.count) 0 row.count);
    sound = subst (λ (l : List Slot). IsSound l row.lists) (sym here) (all_sound row.count short row.lists heads);
    states = ap (map state_of) here ∙ all_idle row.count 0 row.count;
    others = λ s h. grown_before slots more s h;
  }

-- and its row joins the others, or does not
module _ (slots new : List Slot) (rows : List Row) (kept : AreKept slots rows) (head : GroupHead) (count : ℕ) (row : Row) (a : IsAppended slots new head count row) where
  longer : length slots ≤ length new
  longer = (let l : length new ≡ length slots + count = a.grown in omega arith)

  pub kept_without : AreKept new rows
  kept_without = kept_grown slots new rows kept longer a.others

  pub view_without : map (group_state new) rows ≡ map (group_state slots) rows
  view_without = views_same slots new rows kept longer a.others

  pub kept_with : AreKept new (rows ++ row ∷ [])
  kept_with =
      let l : length new ≡ length slots + count = a.grown in let s : row.start ≡ length slots = a.start_is in let n : row.count ≡ count = a.count_is in
      kept_push slots new rows kept longer a.others row s (omega arith) a.sound

  pub view_with : map (group_state new) (rows ++ row ∷ []) ≡ map (group_state slots) rows ++ record { head = head; states = replicate count idle } ∷ []
  view_with = map_push (group_state new) rows row ∙ (λ i. view_without i ++ record { head = a.head_is i; states = a.states i } ∷ [])
