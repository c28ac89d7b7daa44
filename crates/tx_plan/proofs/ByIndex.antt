-- What is known of the member of a list at an index, and that its key leads back to the index.
use Rattle.tx_plan.proofs.Common.{◌≡◌, ◌≢◌, ◌∙◌, ℕ, zero, suc, ◌+◌, ◌<◌, Bool, nat_lt, true, false, List, [], ◌∷◌, ◌++◌, length, take, Some, refl, sym, ap, subst, arith, bytes_eq, bytes_eq-Decides, EachPair}
use Rattle.std.specs.List.{AllByRecursion, list_any, slice_get, position, position_or_len}
use Rattle.std.proofs.lemmas.Bool.{false_from_ne_true, lt-ltb, ltb-true}
use Rattle.std.proofs.lemmas.List.{take_more}
use Rattle.std.proofs.lemmas.Option.{slice_get_within, get_or_from_slice_get, cond_some}
use Rattle.std.proofs.lemmas.Map.Keys.{any_passes_from_place}
use Rattle.tx_plan.proofs.Lists.{all_put}

pub pairs_put : {A : Type 0} (R : A → A → Type 0) (xs : List A) (y : A) → EachPair R xs → AllByRecursion (λ x. R x y) xs → EachPair R (xs ++ y ∷ [])
pairs_put R [] y h k = (tt, tt)
pairs_put R (x ∷ xs) y h k = (all_put (R x) xs y h.0 k.0, pairs_put R xs y h.1 k.1)

pub bytes_apart : (x y : List ℕ) → (x ≡ y → ⊥) → bytes_eq x y ≡ false
bytes_apart x y h = false_from_ne_true (bytes_eq x y) (λ e. h ((bytes_eq-Decides x y).0 e))

bytes_same : (x y : List ℕ) → x ≡ y → bytes_eq x y ≡ true
bytes_same x y e = (bytes_eq-Decides x y).1 e

module _ {A : Type 0} where
  pub entry_at : (xs : List A) (i : ℕ) → i < length xs → (x : A) × (slice_get xs i ≡ Some x)
  entry_at [] i h = absurd (omega (arith, h))
  entry_at (x ∷ xs) zero h = (x, refl)
  entry_at (x ∷ xs) (suc i) h = entry_at xs i (omega (arith, h))

  pub all_at : (P : A → Type 0) (xs : List A) (i : ℕ) (x : A) → AllByRecursion P xs → slice_get xs i ≡ Some x → P x
  all_at P [] i x h e = absurd (let z : ⊥ = cc in z)
  all_at P (y ∷ xs) zero x h e = let s : y ≡ x = cc in subst P s h.0
  all_at P (y ∷ xs) (suc i) x h e = all_at P xs i x h.1 e

  pub take_next : (xs : List A) (i : ℕ) (x : A) → slice_get xs i ≡ Some x → take (i + 1) xs ≡ take i xs ++ x ∷ []
  take_next xs i x h = take_more xs i x (slice_get_within xs i x h) ∙ ap (λ k. take i xs ++ k ∷ []) (get_or_from_slice_get xs i x x h)

  module _ (key : A → List ℕ) where
    first_at : (xs : List A) (i : ℕ) (x : A) → EachPair (λ a b. key a ≢ key b) xs → slice_get xs i ≡ Some x → position_or_len (λ a. bytes_eq (key x) (key a)) xs ≡ i
    first_at [] i x h e = absurd (let z : ⊥ = cc in z)
    first_at (y ∷ xs) zero x h e = let s : y ≡ x = cc in let t = bytes_same (key x) (key y) (ap key (sym s)) in rw t refl
    first_at (y ∷ xs) (suc i) x h e =
        let t = bytes_apart (key x) (key y) (λ s. all_at (λ b. key y ≢ key b) xs i x h.0 e (sym s)) in
        let r = first_at xs i x h.1 e in
        rw (t, r) (omega arith)

    pub index_back : (xs : List A) (i : ℕ) (x : A) → EachPair (λ a b. key a ≢ key b) xs → slice_get xs i ≡ Some x → position (λ a. bytes_eq (key x) (key a)) xs ≡ Some i
    index_back xs i x h e =
        let p = first_at xs i x h e in
        let l = lt-ltb i (length xs) (slice_get_within xs i x e) in
        rw (p, l) refl

    pub index_passes : (xs : List A) (i : ℕ) (x : A) → slice_get xs i ≡ Some x → list_any (λ a. bytes_eq (key x) (key a)) xs ≡ true
    index_passes xs i x e = any_passes_from_place (λ a. bytes_eq (key x) (key a)) xs i x e (bytes_same (key x) (key x) refl)

-- the index that a search gives is one of the list
pub index_within : {A : Type 0} (test : A → Bool) (xs : List A) (i : ℕ) → position test xs ≡ Some i → i < length xs
index_within test xs i h =
    let r = cond_some (nat_lt (position_or_len test xs) (length xs)) (position_or_len test xs) i h in
    let l = ltb-true (position_or_len test xs) (length xs) r.0 in
    omega (arith, r.1)
