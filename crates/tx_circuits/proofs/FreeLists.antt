-- Lists and their entries.
use Rattle.tx_circuits.proofs.Common.{◌≡◌, ◌≢◌, ◌∙◌, ℕ, zero, suc, ◌<◌, ◌⊎◌, inl, inr, List, [], ◌∷◌, ◌++◌, length, map, Option, Some, None, slice_index_or, slice_set, refl, sym, ap, arith, slice_get, option_map, change_at}

pub get_is : {A : Type 0} (xs : List A) (k : ℕ) (d : A) → k < length xs → slice_get xs k ≡ Some (slice_index_or xs k d)
get_is [] k d h = absurd (omega arith)
get_is (x ∷ xs) zero d h = refl
get_is (x ∷ xs) (suc k) d h = get_is xs k d (omega arith)

pub get-set_here : {A : Type 0} (xs : List A) (k : ℕ) (y : A) → k < length xs → slice_get (slice_set xs k y) k ≡ Some y
get-set_here [] k y h = absurd (omega arith)
get-set_here (x ∷ xs) zero y h = refl
get-set_here (x ∷ xs) (suc k) y h = get-set_here xs k y (omega arith)

pub get-set_there : {A : Type 0} (xs : List A) (i k : ℕ) (y : A) → k ≢ i → slice_get (slice_set xs i y) k ≡ slice_get xs k
get-set_there [] i k y ne = refl
get-set_there (x ∷ xs) zero zero y ne = absurd (ne refl)
get-set_there (x ∷ xs) zero (suc k) y ne = refl
get-set_there (x ∷ xs) (suc i) zero y ne = refl
get-set_there (x ∷ xs) (suc i) (suc k) y ne = get-set_there xs i k y (λ e. ne (ap suc e))

pub get-change_here : {A : Type 0} (f : A → A) (xs : List A) (k : ℕ) → slice_get (change_at f k xs) k ≡ option_map f (slice_get xs k)
get-change_here f [] k = refl
get-change_here f (x ∷ xs) zero = refl
get-change_here f (x ∷ xs) (suc k) = get-change_here f xs k

pub get-change_there : {A : Type 0} (f : A → A) (xs : List A) (i k : ℕ) → k ≢ i → slice_get (change_at f i xs) k ≡ slice_get xs k
get-change_there f [] i k ne = refl
get-change_there f (x ∷ xs) zero zero ne = absurd (ne refl)
get-change_there f (x ∷ xs) zero (suc k) ne = refl
get-change_there f (x ∷ xs) (suc i) zero ne = refl
get-change_there f (x ∷ xs) (suc i) (suc k) ne = get-change_there f xs i k (λ e. ne (ap suc e))

pub length-change : {A : Type 0} (f : A → A) (k : ℕ) (xs : List A) → length (change_at f k xs) ≡ length xs
length-change f k [] = refl
length-change f zero (x ∷ xs) = refl
length-change f (suc k) (x ∷ xs) = ap suc (length-change f k xs)

pub some_is : {A : Type 0} (x y : A) → Some x ≡ Some y → x ≡ y
some_is {A} x y e = ap or_x e
  where
    or_x : Option A → A
    or_x None = x
    or_x (Some z) = z

-- an entry of a list with one more is an entry of the list, or that one
pub pushed_is : {A : Type 0} (xs : List A) (y : A) (k : ℕ) (z : A) → slice_get (xs ++ y ∷ []) k ≡ Some z → (slice_get xs k ≡ Some z) ⊎ ((k ≡ length xs) × (y ≡ z))
pushed_is [] y zero z e = inr (refl, some_is y z e)
pushed_is [] y (suc k) z e = absurd cc
pushed_is (x ∷ xs) y zero z e = inl e
pushed_is (x ∷ xs) y (suc k) z e = elim (pushed_is xs y k z e) [ inl a ↦ inl a | inr b ↦ inr (ap suc b.0, b.1) ]

-- a write of one entry, as a column sees it
pub map-set_change : {A B : Type 0} (v v' : A → B) (f : B → B) (xs : List A) (g : ℕ) (x y : A) → slice_get xs g ≡ Some x → v' y ≡ f (v x)
    → ((h : ℕ) (z : A) → h ≢ g → slice_get xs h ≡ Some z → v' z ≡ v z) → map v' (slice_set xs g y) ≡ change_at f g (map v xs)
map-set_change v v' f [] g x y at here rest = refl
map-set_change {A} {B} v v' f (z ∷ xs) zero x y at here rest =
    let head : v' y ≡ f (v z) = here ∙ ap (λ w. f (v w)) (some_is x z (sym at)) in
    λ i. head i ∷ tail xs (λ h w e. rest (suc h) w (λ e. absurd cc) e) i
  where
    tail : (ws : List A) → ((h : ℕ) (w : A) → slice_get ws h ≡ Some w → v' w ≡ v w) → map v' ws ≡ map v ws
    tail [] each = refl
    tail (w ∷ ws) each = λ i. each zero w refl i ∷ tail ws (λ h u e. each (suc h) u e) i
map-set_change v v' f (z ∷ xs) (suc g) x y at here rest =
    λ i. rest zero z (λ e. absurd cc) refl i ∷ map-set_change v v' f xs g x y at here (λ h w ne e. rest (suc h) w (λ e. ne (drop_suc h g e)) e) i
  where
    drop_suc : (h g : ℕ) → suc h ≡ suc g → h ≡ g
    drop_suc h g e = omega arith
