-- Reading on: the bytes of one call after another.
use Rattle.tx_text.proofs.Common.{◌≡◌, ℕ, List, [], ◌++◌, Option, Some, None, refl, sym, ap, ◌∙◌, append_assoc, prepend_known, Moves}

pub moves-nil : (a : Option (List ℕ)) → Moves a a []
moves-nil None = refl
moves-nil (Some x) = refl

pub prepend_twice : (s t : List ℕ) (a : Option (List ℕ)) → prepend_known s (prepend_known t a) ≡ prepend_known (s ++ t) a
prepend_twice s t None = refl
prepend_twice s t (Some x) = ap Some (sym (append_assoc s t x))

pub moves_on : (a b c : Option (List ℕ)) (s t : List ℕ) → Moves a b s → Moves b c t → Moves a c (s ++ t)
moves_on a b c s t p q = p ∙ ap (prepend_known s) q ∙ prepend_twice s t c
