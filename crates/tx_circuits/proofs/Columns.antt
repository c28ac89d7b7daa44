-- What a write of one entry leaves of a column of the entries.
use Rattle.std.proofs.Common.{◌≡◌, ◌≢◌, ℕ, zero, suc, false, cond, ◌==◌, ◌<◌, List, [], ◌∷◌, map, length, slice_index_or, slice_set, refl, sym, ap, ◌∙◌, arith, eqb, eq-eqb}
use Rattle.std.proofs.lemmas.Bool.Decides.{nat_tests}

same : (i k : ℕ) → eqb k i ≡ eqb (suc k) (suc i)
same i k = grind (arith, nat_tests)

module _ {A B : Type 0} (f : A → B) where
  pub column-set : (xs : List A) (i k : ℕ) (y : A) (d : B) → i < length xs → slice_index_or (map f (slice_set xs i y)) k d ≡ cond (k == i) (f y) (slice_index_or (map f xs) k d)
  column-set [] i k y d h = absurd (omega arith)
  column-set (x ∷ xs) zero zero y d h = refl
  column-set (x ∷ xs) zero (suc k) y d h = (let e : eqb (suc k) zero ≡ false = grind (arith, nat_tests) in sym (ap (λ b. cond b (f y) (slice_index_or (map f xs) k d)) e))
  column-set (x ∷ xs) (suc i) zero y d h = (let e : eqb zero (suc i) ≡ false = grind (arith, nat_tests) in sym (ap (λ b. cond b (f y) (f x)) e))
  column-set (x ∷ xs) (suc i) (suc k) y d h = column-set xs i k y d (omega arith) ∙ ap (λ b. cond b (f y) (slice_index_or (map f xs) k d)) (same i k)

  pub column-set_same : (xs : List A) (i : ℕ) (y z : A) → f y ≡ f (slice_index_or xs i z) → i < length xs → map f (slice_set xs i y) ≡ map f xs
  column-set_same [] i y z e h = refl
  column-set_same (x ∷ xs) zero y z e h = ap (λ b. b ∷ map f xs) e
  column-set_same (x ∷ xs) (suc i) y z e h = ap (λ bs. f x ∷ bs) (column-set_same xs i y z e (omega arith))

  -- a column at an index
  pub column_at : (xs : List A) (i : ℕ) (z : A) (d : B) → i < length xs → slice_index_or (map f xs) i d ≡ f (slice_index_or xs i z)
  column_at [] i z d h = absurd (omega arith)
  column_at (x ∷ xs) zero z d h = refl
  column_at (x ∷ xs) (suc i) z d h = column_at xs i z d (omega arith)

  -- a column after a write: at the index, elsewhere, and where the entry is as before
  pub column_here : (xs : List A) (i : ℕ) (y : A) (d : B) → i < length xs → slice_index_or (map f (slice_set xs i y)) i d ≡ f y
  column_here xs i y d h = column-set xs i i y d h ∙ ap (λ b. cond b (f y) (slice_index_or (map f xs) i d)) (eq-eqb i i refl)

  pub column_there : (xs : List A) (i k : ℕ) (y : A) (d : B) → k ≢ i → slice_index_or (map f (slice_set xs i y)) k d ≡ slice_index_or (map f xs) k d
  column_there [] i k y d ne = refl
  column_there (x ∷ xs) zero zero y d ne = absurd (ne refl)
  column_there (x ∷ xs) zero (suc k) y d ne = refl
  column_there (x ∷ xs) (suc i) zero y d ne = refl
  column_there (x ∷ xs) (suc i) (suc k) y d ne = column_there xs i k y d (λ e. ne (ap suc e))

  pub column_same : (xs : List A) (i k : ℕ) (y z : A) (d : B) → f y ≡ f (slice_index_or xs i z) → i < length xs → slice_index_or (map f (slice_set xs i y)) k d ≡ slice_index_or (map f xs) k d
  column_same xs i k y z d e h = ap (λ (l : List B). slice_index_or l k d) (column-set_same xs i y z e h)
