-- What a search by a test finds, and lists of which some members are kept.
use Rattle.tx_join.proofs.Common.{◌≡◌, ◌≢◌, ℕ, zero, suc, ◌+◌, ◌<◌, ◌≤◌, inl, inr, Bool, true, false, not, cond, ◌||◌, List, [], ◌∷◌, ◌++◌, length, length-append, append-nil, map, take, drop, nat_le, Some, None, is_some, unwrap_or, refl, sym, ap, ◌∙◌, arith, find, filter, flat_map, position, slice_get, option_map, slice_get_within, take_all, take-append-drop, filter-append, or-true, list_any-append, EachPair, take_next, all_joined}
use Rattle.std.specs.List.{list_any, position_or_len, range_with_len, AllByRecursion}
use Rattle.std.proofs.lemmas.Bool.{or_parts, cases_eq, leb-true, false_from_ne_true, true≢false, false≢true}
use Rattle.tx_plan.proofs.Lists.{below, all_mapped}

-- AN ENTRY THAT IS FOUND

-- the entry that a search by a test finds, and that is at the index which such a search gives
pub record IsEntry {A : Type 0} (t : A → Bool) (xs : List A) (i : ℕ) (z : A) : Type 0 where
  pub at : slice_get xs i ≡ Some z
  pub found : find t xs ≡ Some z
  pub passes : t z ≡ true

module _ {A : Type 0} (t : A → Bool) where
  entry_from : (xs : List A) → list_any t xs ≡ true → (z : A) × IsEntry t xs (position_or_len t xs) z
  entry_from [] h = absurd (false≢true h)
  entry_from (x ∷ xs) h = by (t x) refl h (entry_from xs)
    where
      by : (b : Bool) → t x ≡ b → (b || list_any t xs) ≡ true → (list_any t xs ≡ true → (z : A) × IsEntry t xs (position_or_len t xs) z) → (z : A) × IsEntry t (x ∷ xs) (cond (not (t x)) (1 + position_or_len t xs) 0) z
      by true e h k = (x, record { at = ap (λ b. slice_get (x ∷ xs) (cond (not b) (1 + position_or_len t xs) 0)) e; found = ap (λ b. cond b (Some x) (find t xs)) e; passes = e })
      by false e h k =
          let r = k h in
          let next : 1 + position_or_len t xs ≡ suc (position_or_len t xs) = omega arith in
          (r.0, record { at = ap (λ b. slice_get (x ∷ xs) (cond (not b) (1 + position_or_len t xs) 0)) e ∙ ap (slice_get (x ∷ xs)) next ∙ r.1.at; found = ap (λ b. cond b (Some x) (find t xs)) e ∙ r.1.found; passes = r.1.passes })

  pub entry_found : (xs : List A) → list_any t xs ≡ true → (z : A) × IsEntry t xs (unwrap_or (position t xs) 0) z
  entry_found xs h =
      let r = entry_from xs h in
      let l = below (position_or_len t xs) (length xs) (slice_get_within xs (position_or_len t xs) r.0 r.1.at) in
      (r.0, rw l r.1)

  pub none_found : (xs : List A) → list_any t xs ≡ false → find t xs ≡ None
  none_found [] h = refl
  none_found (x ∷ xs) h =
      let n = or_parts (t x) (list_any t xs) h in
      ap (λ b. cond b (Some x) (find t xs)) n.0 ∙ none_found xs n.1

  pub find-map : {B : Type 0} (f : B → A) (xs : List B) → find t (map f xs) ≡ option_map f (find (λ x. t (f x)) xs)
  find-map f [] = refl
  find-map {B} f (x ∷ xs) = by (t (f x)) (find-map f xs)
    where
      by : (b : Bool) → find t (map f xs) ≡ option_map f (find (λ x. t (f x)) xs) → cond b (Some (f x)) (find t (map f xs)) ≡ option_map f (cond b (Some x) (find (λ x. t (f x)) xs))
      by true k = refl
      by false k = k

-- MEMBERS

module _ {A : Type 0} where
  -- all are kept
  pub filter_all : (s : A → Bool) (xs : List A) → AllByRecursion (λ x. s x ≡ true) xs → filter s xs ≡ xs
  filter_all s [] h = refl
  filter_all s (x ∷ xs) h = rw h.0 (ap (λ l. x ∷ l) (filter_all s xs h.1))

  -- none is
  pub filter_none : (s : A → Bool) (xs : List A) → AllByRecursion (λ x. s x ≡ false) xs → filter s xs ≡ []
  filter_none s [] h = refl
  filter_none s (x ∷ xs) h = rw h.0 (filter_none s xs h.1)

  -- each stays as it is
  pub map_same : (f : A → A) (xs : List A) → AllByRecursion (λ x. f x ≡ x) xs → map f xs ≡ xs
  map_same f [] h = refl
  map_same f (x ∷ xs) h = λ i. h.0 i ∷ map_same f xs h.1 i

  -- two maps, one after the other
  pub map_twice : {B C : Type 0} (g : B → C) (f : A → B) (xs : List A) → map g (map f xs) ≡ map (λ x. g (f x)) xs
  map_twice g f [] = refl
  map_twice g f (x ∷ xs) = ap (λ l. g (f x) ∷ l) (map_twice g f xs)

  pub filter-map : {B : Type 0} (s : B → Bool) (f : A → B) (xs : List A) → filter s (map f xs) ≡ map f (filter (λ x. s (f x)) xs)
  filter-map s f [] = refl
  filter-map s f (x ∷ xs) = by (s (f x)) (filter-map s f xs)
    where
      by : (b : Bool) → filter s (map f xs) ≡ map f (filter (λ x. s (f x)) xs) → cond b (f x ∷ filter s (map f xs)) (filter s (map f xs)) ≡ map f (cond b (x ∷ filter (λ x. s (f x)) xs) (filter (λ x. s (f x)) xs))
      by true k = ap (λ l. f x ∷ l) k
      by false k = k

  -- what holds of all members, and of each by itself
  pub all_of : (P : A → Type 0) (xs : List A) → ((i : ℕ) (x : A) → slice_get xs i ≡ Some x → P x) → AllByRecursion P xs
  all_of P [] h = tt
  all_of P (x ∷ xs) h = (h 0 x refl, all_of P xs (λ i y e. h (suc i) y e))

  pub pairs_map : {R Q : A → A → Type 0} (P : A → Type 0) (xs : List A) → ((x y : A) → P x → P y → R x y → Q x y) → AllByRecursion P xs → EachPair R xs → EachPair Q xs
  pairs_map P [] f h k = tt
  pairs_map {R} {Q} P (x ∷ xs) f h k = (both xs h.1 k.0, pairs_map P xs f h.1 k.1)
    where
      both : (ys : List A) → AllByRecursion P ys → AllByRecursion (R x) ys → AllByRecursion (Q x) ys
      both [] p r = tt
      both (y ∷ ys) p r = (f x y h.0 p.0 r.0, both ys p.1 r.1)

  pub pairs_mapped : {B : Type 0} (f : A → B) (R : B → B → Type 0) (xs : List A) → EachPair (λ x y. R (f x) (f y)) xs → EachPair R (map f xs)
  pairs_mapped f R [] h = tt
  pairs_mapped f R (x ∷ xs) h = (all_mapped f (R (f x)) xs h.0, pairs_mapped f R xs h.1)

  pub pairs_unmapped : {B : Type 0} (f : A → B) (R : B → B → Type 0) (xs : List A) → EachPair R (map f xs) → EachPair (λ x y. R (f x) (f y)) xs
  pairs_unmapped f R [] h = tt
  pairs_unmapped f R (x ∷ xs) h = (all_unmapped xs h.0, pairs_unmapped f R xs h.1)
    where
      all_unmapped : (ys : List A) → AllByRecursion (R (f x)) (map f ys) → AllByRecursion (λ y. R (f x) (f y)) ys
      all_unmapped [] k = tt
      all_unmapped (y ∷ ys) k = (k.0, all_unmapped ys k.1)

  -- searches by two tests that agree on all members
  pub find_same : (t s : A → Bool) (xs : List A) → AllByRecursion (λ x. t x ≡ s x) xs → find t xs ≡ find s xs
  find_same t s [] h = refl
  find_same t s (x ∷ xs) h = λ i. cond (h.0 i) (Some x) (find_same t s xs h.1 i)

  pub any_find : (t : A → Bool) (xs : List A) → list_any t xs ≡ is_some (find t xs)
  any_find t [] = refl
  any_find t (x ∷ xs) = by (t x) (any_find t xs)
    where
      by : (b : Bool) → list_any t xs ≡ is_some (find t xs) → (b || list_any t xs) ≡ is_some (cond b (Some x) (find t xs))
      by true k = refl
      by false k = k

  -- none passes
  pub find_fails : (t : A → Bool) (xs : List A) → AllByRecursion (λ x. t x ≡ false) xs → find t xs ≡ None
  find_fails t [] h = refl
  find_fails t (x ∷ xs) h = ap (λ b. cond b (Some x) (find t xs)) h.0 ∙ find_fails t xs h.1

  -- all that pass are kept
  pub find_kept : (t s : A → Bool) (xs : List A) → AllByRecursion (λ x. t x ≡ true → s x ≡ true) xs → find t (filter s xs) ≡ find t xs
  find_kept t s [] h = refl
  find_kept t s (x ∷ xs) h = by (t x) (s x) h.0 (find_kept t s xs h.1) refl refl
    where
      by : (b c : Bool) → (t x ≡ true → s x ≡ true) → find t (filter s xs) ≡ find t xs → t x ≡ b → s x ≡ c → find t (cond c (x ∷ filter s xs) (filter s xs)) ≡ cond b (Some x) (find t xs)
      by true true k r e f = ap (λ b. cond b (Some x) (find t (filter s xs))) e
      by true false k r e f = absurd (true≢false (sym (k e) ∙ f))
      by false true k r e f = ap (λ b. cond b (Some x) (find t (filter s xs))) e ∙ r
      by false false k r e f = r

-- NUMBERS IN A ROW

pub range_all : (P : ℕ → Type 0) (a n : ℕ) → ((i : ℕ) → a ≤ i → i < a + n → P i) → AllByRecursion P (range_with_len a n)
range_all P a zero h = tt
range_all P a (suc n) h = (h a (omega arith) (omega arith), range_all P (a + 1) n (λ i l m. h i (omega (arith, l)) (omega (arith, m))))

pub range_differ : (a n : ℕ) → EachPair (λ x y. x ≢ y) (range_with_len a n)
range_differ a zero = tt
range_differ a (suc n) = (range_all (λ y. a ≢ y) (a + 1) n (λ i l m e. omega (arith, l, e)), range_differ (a + 1) n)

pub range_any : (t : ℕ → Bool) (a n i : ℕ) → a ≤ i → i < a + n → t i ≡ true → list_any t (range_with_len a n) ≡ true
range_any t a zero i l m h = absurd (omega (arith, l, m))
range_any t a (suc n) i l m h = elim (cases_eq a i) [
  | inl e ↦ ap (λ b. b || list_any t (range_with_len (a + 1) n)) (ap t e ∙ h)
  | inr e ↦ ap (λ b. t a || b) (range_any t (a + 1) n i (omega (arith, l, e)) (omega (arith, m)) h) ∙ or-true (t a)
]

-- what holds of the members of joined lists
pub all_flat : {A B : Type 0} (P : B → Type 0) (f : A → List B) (xs : List A) → AllByRecursion (λ x. AllByRecursion P (f x)) xs → AllByRecursion P (flat_map f xs)
all_flat P f [] h = tt
all_flat P f (x ∷ xs) h = all_joined P (f x) (flat_map f xs) h.0 (all_flat P f xs h.1)

pub any_flat : {A B : Type 0} (t : B → Bool) (f : A → List B) (xs : List A) → list_any t (flat_map f xs) ≡ list_any (λ x. list_any t (f x)) xs
any_flat t f [] = refl
any_flat t f (x ∷ xs) = list_any-append t (f x) (flat_map f xs) ∙ ap (λ b. list_any t (f x) || b) (any_flat t f xs)

-- LISTS THAT GROW

module _ {A : Type 0} where
  -- the next member is kept
  pub kept_next : (s : A → Bool) (xs : List A) (i : ℕ) (x : A) → slice_get xs i ≡ Some x → s x ≡ true → filter s (take (i + 1) xs) ≡ filter s (take i xs) ++ x ∷ []
  kept_next s xs i x e h = ap (filter s) (take_next xs i x e) ∙ filter-append s (take i xs) (x ∷ []) ∙ ap (λ b. filter s (take i xs) ++ cond b (x ∷ []) []) h

  -- it is not
  pub left_next : (s : A → Bool) (xs : List A) (i : ℕ) (x : A) → slice_get xs i ≡ Some x → s x ≡ false → filter s (take (i + 1) xs) ≡ filter s (take i xs)
  left_next s xs i x e h = ap (filter s) (take_next xs i x e) ∙ filter-append s (take i xs) (x ∷ []) ∙ ap (λ b. filter s (take i xs) ++ cond b (x ∷ []) []) h ∙ append-nil (filter s (take i xs))

  -- what is kept in all is what was kept before, and the rest
  pub kept_split : (s : A → Bool) (xs : List A) (i : ℕ) → filter s xs ≡ filter s (take i xs) ++ filter s (drop i xs)
  kept_split s xs i = ap (filter s) (sym (take-append-drop i xs)) ∙ filter-append s (take i xs) (drop i xs)

  pub drop_next : (xs : List A) (i : ℕ) (x : A) → slice_get xs i ≡ Some x → drop i xs ≡ x ∷ drop (suc i) xs
  drop_next [] i x e = absurd (let bad : ⊥ = cc in bad)
  drop_next (y ∷ xs) zero x e = let s : y ≡ x = cc in ap (λ z. z ∷ xs) s
  drop_next (y ∷ xs) (suc i) x e = drop_next xs i x e

  -- where the next member is kept
  pub kept_at : (s : A → Bool) (xs : List A) (i : ℕ) (x : A) → slice_get xs i ≡ Some x → s x ≡ true → filter s xs ≡ filter s (take i xs) ++ x ∷ filter s (drop (suc i) xs)
  kept_at s xs i x e h = kept_split s xs i ∙ ap (λ l. filter s (take i xs) ++ filter s l) (drop_next xs i x e) ∙ ap (λ b. filter s (take i xs) ++ cond b (x ∷ filter s (drop (suc i) xs)) (filter s (drop (suc i) xs))) h

  pub taken_last : (xs : List A) (i : ℕ) → i ≡ length xs → take i xs ≡ xs
  taken_last xs i e = ap (λ n. take n xs) e ∙ take_all (length xs) xs (omega arith)

  -- each member before one is related to it
  pub pairs_before : (R : A → A → Type 0) (xs : List A) (y : A) (ys : List A) → EachPair R (xs ++ y ∷ ys) → AllByRecursion (λ x. R x y) xs
  pairs_before R [] y ys h = tt
  pairs_before R (x ∷ xs) y ys h = (at_end xs h.0, pairs_before R xs y ys h.1)
    where
      at_end : (zs : List A) → AllByRecursion (R x) (zs ++ y ∷ ys) → R x y
      at_end [] k = k.0
      at_end (z ∷ zs) k = at_end zs k.1

  -- one member of many
  pub middle : (P : A → Type 0) (xs : List A) (y : A) (ys : List A) → AllByRecursion P (xs ++ y ∷ ys) → P y
  middle P [] y ys h = h.0
  middle P (x ∷ xs) y ys h = middle P xs y ys h.1

  pub length_before : (xs : List A) (y : A) (ys : List A) (n : ℕ) → length (xs ++ y ∷ ys) ≤ n → nat_le n (length xs) ≡ false
  length_before xs y ys n h =
      let l : length (xs ++ y ∷ ys) ≡ length xs + suc (length ys) = length-append xs (y ∷ ys) in
      false_from_ne_true (nat_le n (length xs)) (λ e. let m = leb-true n (length xs) e in omega (arith, l, h, m))

-- SEARCHES OF INDEXES

pub found_at : (t : ℕ → Bool) (n i : ℕ) → ((k : ℕ) → k < i → t k ≡ false) → i < n → t i ≡ true → find t (range_with_len 0 n) ≡ Some i
found_at t n i before l h = from 0 n i (λ k a b. before k b) (omega arith) (omega (arith, l)) h
  where
    from : (a n i : ℕ) → ((k : ℕ) → a ≤ k → k < i → t k ≡ false) → a ≤ i → i < a + n → t i ≡ true → find t (range_with_len a n) ≡ Some i
    from a zero i before l m h = absurd (omega (arith, l, m))
    from a (suc n) i before l m h = elim (cases_eq a i) [
      | inl e ↦ ap (λ b. cond b (Some a) (find t (range_with_len (a + 1) n))) (ap t e ∙ h) ∙ ap Some e
      | inr e ↦ ap (λ b. cond b (Some a) (find t (range_with_len (a + 1) n))) (before a (omega arith) (omega (arith, l, e))) ∙ from (a + 1) n i (λ k c d. before k (omega (arith, c)) d) (omega (arith, l, e)) (omega (arith, m)) h
    ]

pub none_at : (t : ℕ → Bool) (n : ℕ) → ((k : ℕ) → k < n → t k ≡ false) → find t (range_with_len 0 n) ≡ None
none_at t n h = find_fails t (range_with_len 0 n) (range_all (λ k. t k ≡ false) 0 n (λ k l m. h k (omega (arith, m))))

-- one index more fails
pub fails_next : (t : ℕ → Bool) (i x : ℕ) (r : Bool) → ((k : ℕ) → k < i → t k ≡ false) → x ≡ i → r ≡ t x → r ≡ false → (k : ℕ) → k < i + 1 → t k ≡ false
fails_next t i x r before e is fails k l = elim (cases_eq k i) [
  | inl s ↦ ap t (s ∙ sym e) ∙ sym is ∙ fails
  | inr s ↦ before k (omega (arith, l, s))
]
