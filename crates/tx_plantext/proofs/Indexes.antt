-- What is known of the members of a list, and of those before one of them.
use Rattle.tx_plantext.proofs.Common.{◌≡◌, ◌<◌, Bool, false, List, [], ◌∷◌, ◌++◌, length, refl, arith, AllByRecursion, list_any, or_from, EachPair}

module _ {A : Type 0} where
  pub all_weaker : (P Q : A → Type 0) → ((x : A) → P x → Q x) → (xs : List A) → AllByRecursion P xs → AllByRecursion Q xs
  all_weaker P Q f [] h = tt
  all_weaker P Q f (x ∷ xs) h = (f x h.0, all_weaker P Q f xs h.1)

  -- the member between two parts of a list
  pub all_between : (P : A → Type 0) (front : List A) (x : A) (back : List A) → AllByRecursion P (front ++ x ∷ back) → P x
  all_between P [] x back h = h.0
  all_between P (y ∷ front) x back h = all_between P front x back h.1

  pub apart_front : (R : A → A → Type 0) (front : List A) (x : A) (back : List A) → EachPair R (front ++ x ∷ back) → AllByRecursion (λ y. R y x) front
  apart_front R [] x back h = tt
  apart_front R (y ∷ front) x back h = (all_between (R y) front x back h.0, apart_front R front x back h.1)

  pub length_front : (front : List A) (x : A) (back : List A) → length front < length (front ++ x ∷ back)
  length_front [] x back = omega arith
  length_front (y ∷ front) x back = let h = length_front front x back in omega arith

  pub none_passes : (t : A → Bool) (xs : List A) → AllByRecursion (λ x. t x ≡ false) xs → list_any t xs ≡ false
  none_passes t [] h = refl
  none_passes t (x ∷ xs) h = or_from (t x) (list_any t xs) h.0 (none_passes t xs h.1)
