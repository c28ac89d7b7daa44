-- Facts of all members of a list, as it grows by one.
use Rattle.std.proofs.Common.{◌≡◌, ◌≢◌, ℕ, zero, suc, ◌+◌, ◌≤◌, ◌<◌, Bool, true, false, not, cond, ◌||◌, nat_lt, nat_le, List, [], ◌∷◌, ◌++◌, length, length-append, get_or, map, is_some, unwrap_or, Some, None, refl, sym, ap, ◌∙◌, arith}
use Rattle.tx_plan.proofs.Common.{slice_get, position, list_any, position_or_len, AllByRecursion, bytes_eq, nat_tests, same_from_decides, position-Some, bytes_eq-Decides}
use Rattle.std.proofs.lemmas.Bool.{leb-false, or_parts}

-- TESTS

pub same_tests : (a b : Bool) → (a ≡ true → b ≡ true) → (b ≡ true → a ≡ true) → a ≡ b
same_tests a b f g = same_from_decides {P = b ≡ true} a b (f, g) (λ e. e, λ e. e)

pub opposed : (b : Bool) → b ≡ true → b ≡ false → ⊥
opposed b h k = absurd (cc)

pub unlike : (v w : List ℕ) → bytes_eq v w ≡ false → v ≢ w
unlike v w h e = opposed (bytes_eq v w) ((bytes_eq-Decides v w).1 e) h

pub at_least : (m n : ℕ) → nat_le m n ≡ true → m ≤ n
at_least m n h = grind (arith, nat_tests)

-- ALL MEMBERS

pub all_map : {A : Type 0} {P Q : A → Type 0} (xs : List A) → ((x : A) → P x → Q x) → AllByRecursion P xs → AllByRecursion Q xs
all_map [] f h = tt
all_map (x ∷ xs) f h = (f x h.0, all_map xs f h.1)

pub all_put : {A : Type 0} (P : A → Type 0) (xs : List A) (y : A) → AllByRecursion P xs → P y → AllByRecursion P (xs ++ y ∷ [])
all_put P [] y h k = (k, tt)
all_put P (x ∷ xs) y h k = (h.0, all_put P xs y h.1 k)

pub none_passes : {A : Type 0} (t : A → Bool) (xs : List A) → list_any t xs ≡ false → AllByRecursion (λ x. t x ≡ false) xs
none_passes t [] h = tt
none_passes t (x ∷ xs) h = let n = or_parts (t x) (list_any t xs) h in (n.0, none_passes t xs n.1)

pub apart : {A : Type 0} (t : A → Bool) (P : A → Type 0) (xs : List A) → ((x : A) → t x ≡ false → P x) → list_any t xs ≡ false → AllByRecursion P xs
apart t P xs f h = all_map xs f (none_passes t xs h)

-- one more, where there were fewer than a number
pub one_more : {A : Type 0} (xs : List A) (x : A) (n : ℕ) → nat_le n (length xs) ≡ false → length (xs ++ x ∷ []) ≤ n
one_more xs x n h = let l = leb-false n (length xs) h in simp length-append (omega (arith, l))

pub longer_by : {A : Type 0} (xs ys : List A) → length xs ≤ length (xs ++ ys)
longer_by xs ys = simp length-append (omega arith)

pub slice_get_left : {A : Type 0} (xs ys : List A) (k : ℕ) → k < length xs → slice_get (xs ++ ys) k ≡ slice_get xs k
slice_get_left [] ys k h = absurd (omega (arith, h))
slice_get_left (x ∷ xs) ys zero h = refl
slice_get_left (x ∷ xs) ys (suc k) h = slice_get_left xs ys k (omega (arith, h))

-- INDEXES

-- where no element passes, the index is past the end
none_len : {A : Type 0} (t : A → Bool) (xs : List A) → AllByRecursion (λ x. t x ≡ false) xs → position_or_len t xs ≡ length xs
none_len t [] h = refl
none_len t (x ∷ xs) h = rw (h.0, none_len t xs h.1) (omega arith)

not_below : (n : ℕ) → nat_lt n n ≡ false
not_below n = grind (arith, nat_tests)

pub no_index : {A : Type 0} (t : A → Bool) (xs : List A) → AllByRecursion (λ x. t x ≡ false) xs → position t xs ≡ None
no_index t xs h = rw (none_len t xs h, not_below (length xs)) refl

index_found : {A : Type 0} (t : A → Bool) (xs : List A) → list_any t xs ≡ true → position_or_len t xs < length xs
index_found t [] h = absurd (cc)
index_found t (x ∷ xs) h = by_test (t x) h (index_found t xs)
  where
    by_test : (b : Bool) → (b || list_any t xs) ≡ true → (list_any t xs ≡ true → position_or_len t xs < length xs) → cond (not b) (1 + position_or_len t xs) 0 < suc (length xs)
    by_test true h k = omega arith
    by_test false h k = let l = k h in omega (arith, l)

pub below : (m n : ℕ) → m < n → nat_lt m n ≡ true
below m n h = grind (arith, nat_tests)

-- where one passes, the index is of a member that passes
pub placed : {A : Type 0} (t : A → Bool) (xs : List A) → list_any t xs ≡ true → position t xs ≡ Some (unwrap_or (position t xs) 0)
placed t xs h = rw (below (position_or_len t xs) (length xs) (index_found t xs h)) refl

pub placed_within : {A : Type 0} (t : A → Bool) (xs : List A) → list_any t xs ≡ true → unwrap_or (position t xs) 0 < length xs
placed_within t xs h = rw (below (position_or_len t xs) (length xs) (index_found t xs h)) (index_found t xs h)

-- the word that was looked for stands there
pub placed_word : {A : Type 0} (word : A → List ℕ) (d : A) (w : List ℕ) (xs : List A) → list_any (λ x. bytes_eq w (word x)) xs ≡ true → w ≡ word (get_or xs (unwrap_or (position (λ x. bytes_eq w (word x)) xs) 0) d)
placed_word word d w xs h =
    let found = position-Some (λ x. bytes_eq w (word x)) xs (unwrap_or (position (λ x. bytes_eq w (word x)) xs) 0) d (placed (λ x. bytes_eq w (word x)) xs h) in
    (bytes_eq-Decides w (word (get_or xs (unwrap_or (position (λ x. bytes_eq w (word x)) xs) 0) d))).0 found.1

-- two words that and_parts are in a list at one index are one
pub one_word : {A : Type 0} (word : A → List ℕ) (d : A) (v w : List ℕ) (xs : List A) → list_any (λ x. bytes_eq v (word x)) xs ≡ true → list_any (λ x. bytes_eq w (word x)) xs ≡ true
    → unwrap_or (position (λ x. bytes_eq v (word x)) xs) 0 ≡ unwrap_or (position (λ x. bytes_eq w (word x)) xs) 0 → v ≡ w
one_word word d v w xs h k e = placed_word word d v xs h ∙ ap (λ i. word (get_or xs i d)) e ∙ sym (placed_word word d w xs k)

pub all_mapped : {A B : Type 0} (f : A → B) (P : B → Type 0) (xs : List A) → AllByRecursion (λ x. P (f x)) xs → AllByRecursion P (map f xs)
all_mapped f P [] h = tt
all_mapped f P (x ∷ xs) h = (h.0, all_mapped f P xs h.1)

pub all_with : {A : Type 0} {P Q R : A → Type 0} (xs : List A) → ((x : A) → P x → Q x → R x) → AllByRecursion P xs → AllByRecursion Q xs → AllByRecursion R xs
all_with [] f h k = tt
all_with (x ∷ xs) f h k = (f x h.0 k.0, all_with xs f h.1 k.1)

-- an index is found exactly where one passes
pub found_any : {A : Type 0} (t : A → Bool) (xs : List A) → is_some (position t xs) ≡ list_any t xs
found_any t xs = by_test (list_any t xs) refl
  where
    by_test : (b : Bool) → list_any t xs ≡ b → is_some (position t xs) ≡ list_any t xs
    by_test true h = ap is_some (placed t xs h) ∙ sym h
    by_test false h = ap is_some (no_index t xs (none_passes t xs h)) ∙ sym h
