-- A list without an element of either kind has none of the one, and none of the other.
use Rattle.std.specs.Prelude.{find}
use Rattle.std.proofs.Common.{◌≡◌, Bool, true, false, cond, ◌||◌, List, [], ◌∷◌, None, Some, refl}

pub none_unranked : {X : Type 0} (p q : X → Bool) (xs : List X) → find (λ x. p x || q x) xs ≡ None → None ≡ find p xs
none_unranked p q [] h = refl
none_unranked p q (x ∷ xs) h =
    elim (p x) as (λ b. cond (b || q x) (Some x) (find (λ y. p y || q y) xs) ≡ None → None ≡ cond b (Some x) (find p xs)) [
      | true ↦ λ k. let bad : ⊥ = cc in absurd bad
      | false ↦ λ k. elim (q x) as (λ d. cond d (Some x) (find (λ y. p y || q y) xs) ≡ None → None ≡ find p xs) [
        | true ↦ λ l. let bad : ⊥ = cc in absurd bad
        | false ↦ λ l. none_unranked p q xs l
      ] k
    ] h

pub none_not_lower : {X : Type 0} (p q : X → Bool) (xs : List X) → find (λ x. p x || q x) xs ≡ None → None ≡ find q xs
none_not_lower p q [] h = refl
none_not_lower p q (x ∷ xs) h =
    elim (q x) as (λ b. cond (p x || b) (Some x) (find (λ y. p y || q y) xs) ≡ None → None ≡ cond b (Some x) (find q xs)) [
      | true ↦ λ k. elim (p x) as (λ d. cond (d || true) (Some x) (find (λ y. p y || q y) xs) ≡ None → None ≡ Some x) [
        | true ↦ λ l. let bad : ⊥ = cc in absurd bad
        | false ↦ λ l. let bad : ⊥ = cc in absurd bad
      ] k
      | false ↦ λ k. elim (p x) as (λ d. cond (d || false) (Some x) (find (λ y. p y || q y) xs) ≡ None → None ≡ find q xs) [
        | true ↦ λ l. let bad : ⊥ = cc in absurd bad
        | false ↦ λ l. none_not_lower p q xs l
      ] k
    ] h
