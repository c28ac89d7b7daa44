-- How many entries of a plan another one does not have, counted one after another.
use Rattle.tx_join.proofs.Common.{◌≡◌, ℕ, ◌+◌, ◌<◌, ◌≤◌, Bool, true, false, not, cond, List, [], ◌∷◌, length, length-append, take, Some, sym, ap, ◌∙◌, arith, filter, slice_get, entry_at}
use Rattle.std.proofs.lemmas.List.{length-take}
use Rattle.tx_join.proofs.Found.{kept_next, left_next}

filter_shorter : {A : Type 0} (t : A → Bool) (xs : List A) → length (filter t xs) ≤ length xs
filter_shorter t [] = omega arith
filter_shorter t (x ∷ xs) = by (t x) (filter_shorter t xs)
  where
    by : (b : Bool) → length (filter t xs) ≤ length xs → length (cond b (x ∷ filter t xs) (filter t xs)) ≤ length (x ∷ xs)
    by true h = omega (arith, h)
    by false h = omega (arith, h)

take_shorter : {A : Type 0} (i : ℕ) (xs : List A) → length (take i xs) ≤ length xs
take_shorter i xs = let e = length-take i xs in omega (arith, e)

-- the entries of which a test by their key fails
module _ {A : Type 0} (key : A → List ℕ) (known : List ℕ → Bool) (xs : List A) (i base now : ℕ) (is : now ≡ base + length (filter (λ x. not (known (key x))) (take i xs))) where
  abbrev pub t : A → Bool
  t x = not (known (key x))

  pub counted_few : now ≤ base + length xs
  counted_few =
      let a = filter_shorter t (take i xs) in
      let b = take_shorter i xs in
      omega (arith, a, b, is)

  module _ (l : i < length xs) (word : List ℕ) (at : (x : A) → slice_get xs i ≡ Some x → word ≡ key x) where
    row : (x : A) × (slice_get xs i ≡ Some x)
    row = entry_at xs i l

    pub counted : known word ≡ false → (new : ℕ) → new ≡ now + 1 → new ≡ base + length (filter t (take (i + 1) xs))
    counted h new e =
        let n = ap length (kept_next t xs i row.0 row.1 (ap (λ w. not (known w)) (sym (at row.0 row.1)) ∙ ap not h)) in
        let m = length-append (filter t (take i xs)) (row.0 ∷ []) in
        omega (arith, n, m, e, is)

    pub uncounted : known word ≡ true → (new : ℕ) → new ≡ now → new ≡ base + length (filter t (take (i + 1) xs))
    uncounted h new e = e ∙ is ∙ ap (λ ys. base + length ys) (sym (left_next t xs i row.0 row.1 (ap (λ w. not (known w)) (sym (at row.0 row.1)) ∙ ap not h)))
