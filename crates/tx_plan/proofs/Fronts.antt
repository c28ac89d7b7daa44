-- Texts that begin with others.
use Rattle.tx_plan.proofs.Common.{◌≡◌, ℕ, true, false, ◌==◌, List, [], ◌∷◌, ◌++◌, take, drop, length, Option, Some, None, refl, ap, sym, ◌∙◌, eq-eqb, eqb-true, option_map, bytes_eq, bytes_eq-Decides, after}
use Rattle.std.specs.Prelude.{MatchOption, if◌then◌else◌}
use Rattle.std.proofs.lemmas.Bool.{both_ways}
use Rattle.std.proofs.lemmas.List.{take-append-drop}
use Rattle.std.proofs.Math.Seq.{take-append_seam}

after_front : (front rest : List ℕ) → after front (front ++ rest) ≡ Some rest
after_front [] rest = refl
after_front (x ∷ xs) rest = ap (λ b. if b then after xs (xs ++ rest) else None) (eq-eqb x x refl) ∙ after_front xs rest

pub after-is : (front text rest : List ℕ) → after front text ≡ Some rest → front ++ rest ≡ text
after-is [] text rest h = let e : text ≡ rest = cc in sym e
after-is (x ∷ xs) [] rest h = let bad : ⊥ = cc in absurd bad
after-is (x ∷ xs) (y ∷ ys) rest h =
    elim (x == y) as (λ b. (x == y) ≡ b → (if b then after xs ys else None) ≡ Some rest → x ∷ xs ++ rest ≡ y ∷ ys) [
      | true ↦ λ t e. λ i. eqb-true x y t i ∷ after-is xs ys rest e i
      | false ↦ λ t e. let bad : ⊥ = cc in absurd bad
    ] refl h

pub stripped : {R : Type 0} (now : R → List ℕ) (o : Option R) (front text : List ℕ) (more : R → Type 0) → MatchOption o (bytes_eq (take (length front) text) front ≡ false) (λ x. (bytes_eq (take (length front) text) front ≡ true) × (now x ≡ drop (length front) text) × more x) → option_map now o ≡ after front text
stripped now None front text more h = at (after front text) refl
  where
    at : (o : Option (List ℕ)) → after front text ≡ o → None ≡ after front text
    at None e = sym e
    at (Some rest) e = absurd (both_ways _ h ((bytes_eq-Decides (take (length front) text) front).1 (ap (take (length front)) (sym (after-is front text rest e)) ∙ take-append_seam front rest)))
stripped now (Some x) front text more h =
    let e = (bytes_eq-Decides (take (length front) text) front).0 h.0 in
    ap Some h.1 ∙ sym (after_front front (drop (length front) text)) ∙ ap (after front) (ap (λ t. t ++ drop (length front) text) (sym e) ∙ take-append-drop (length front) text)
