-- The first refusal of a list of tests, and of two lists, one after the other.
use Rattle.tx_plan.proofs.Common.{◌≡◌, Bool, true, false, List, [], ◌∷◌, ◌++◌, Option, Some, None, Result, Ok, Err, inl, inr, refl, sym, ap, ◌∙◌, subst, Plan, PlanRefusal}
use Rattle.std.specs.Prelude.{if◌then◌else◌, IfErr}
use Rattle.std.specs.Result.{IsErrAnd}
use Rattle.tx_plan.specs.Declaring.{Declares, first_true}
use Rattle.tx_plan.specs.declared.refusal.PlanRefusal.TheVariants.{NoMemory}

module _ {X : Type 0} where
  -- a test that is true
  pub taken : {b : Bool} {x : X} (y : X) → b ≡ true → (if b then x else y) ≡ x
  taken {b} {x} y h = ap (λ t. if t then x else y) h

  -- one that is not
  pub passed_on : {b : Bool} (x : X) {y : X} → b ≡ false → (if b then x else y) ≡ y
  passed_on {b} x {y} h = ap (λ t. if t then x else y) h

  -- what was read, and what it says of the test
  pub read_right : (b : Bool) (w r : X) → Some r ≡ (if b then Some w else None) → b ≡ true
  read_right true w r h = refl
  read_right false w r h = let bad : ⊥ = cc in absurd bad

  pub read_same : (b : Bool) (w r : X) → Some r ≡ (if b then Some w else None) → r ≡ w
  read_same true w r h = cc
  read_same false w r h = let bad : ⊥ = cc in absurd bad

module _ {R : Type 0} where
  -- the first list refuses nothing
  pub goes_on : (xs ys : List (Bool × R)) → first_true xs ≡ None → first_true (xs ++ ys) ≡ first_true ys
  goes_on [] ys h = refl
  goes_on ((true, r) ∷ xs) ys h = let bad : ⊥ = cc in absurd bad
  goes_on ((false, r) ∷ xs) ys h = goes_on xs ys h

  -- the first list refuses
  pub stops : (xs ys : List (Bool × R)) (r : R) → first_true xs ≡ Some r → first_true (xs ++ ys) ≡ Some r
  stops [] ys r h = let bad : ⊥ = cc in absurd bad
  stops ((true, q) ∷ xs) ys r h = h
  stops ((false, q) ∷ xs) ys r h = stops xs ys r h

-- a refusal that is handed on
pub refused : {T : Type 0} (r : Result T PlanRefusal) (e : PlanRefusal) (P : PlanRefusal → Type 0) → IsErrAnd r (λ f. f ≡ e) → P e → IfErr r P
refused (Ok x) e P h p = absurd h
refused (Err f) e P h p = subst P (sym h) p

module _ (refusal : Option PlanRefusal) (old next new : Plan) (r : Result (Unit {0}) PlanRefusal) where
  pub declares-refused : (e : PlanRefusal) → IsErrAnd r (λ f. f ≡ e) → refusal ≡ Some e → new ≡ old → Declares refusal old next new r
  declares-refused e h is same = at r h
    where
      at : (r : Result (Unit {0}) PlanRefusal) → IsErrAnd r (λ f. f ≡ e) → Declares refusal old next new r
      at (Ok x) h = absurd h
      at (Err f) h = (same, inl (is ∙ ap Some (sym h)))

  -- memory was refused
  pub declares-no_memory : IsErrAnd r (λ f. f ≡ NoMemory) → refusal ≡ None → new ≡ old → Declares refusal old next new r
  declares-no_memory h none same = at r h
    where
      at : (r : Result (Unit {0}) PlanRefusal) → IsErrAnd r (λ f. f ≡ NoMemory) → Declares refusal old next new r
      at (Ok x) h = absurd h
      at (Err f) h = (same, inr (none, h))
