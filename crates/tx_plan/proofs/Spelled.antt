-- The figures of codes, and texts that begin others.
use Rattle.tx_plan.proofs.Common.{◌≡◌, ℕ, zero, suc, ◌≤◌, ◌==◌, Bool, true, false, ◌&&◌, List, [], ◌∷◌, take, length, Option, None, refl, ap, ◌∙◌, eqb-true, eq-eqb, is_some, arith, false≢true, and_parts, nat_le, if◌then◌else◌, is_figure, after, is_prefix, is_code}
use Rattle.tx_plan.proofs.Absent.{short_code}
use Rattle.tx_plan.proofs.Lists.{at_least}

-- 0 to 9
pub record IsFigure (x : ℕ) : Type 0 where
  pub least : 48 ≤ x
  pub most : x ≤ 57

-- two or three figures
pub data IsSpelled : List ℕ → Type 0 where
  two : (a b : ℕ) → IsFigure a → IsFigure b → IsSpelled (a ∷ b ∷ [])
  three : (a b c : ℕ) → IsFigure a → IsFigure b → IsFigure c → IsSpelled (a ∷ b ∷ c ∷ [])

figure : (x : ℕ) → is_figure x ≡ true → IsFigure x
figure x h = let p = and_parts (nat_le 48 x) (nat_le x 57) h in record { least = at_least 48 x p.0; most = at_least x 57 p.1 }

pub spelled : (text : List ℕ) → is_code text ≡ true → IsSpelled text
spelled [] h = absurd (false≢true h)
spelled (a ∷ []) h = absurd (false≢true h)
spelled (a ∷ b ∷ []) h =
    let p = and_parts (is_figure a) (is_figure b && true) h in
    two a b (figure a p.0) (figure b (and_parts (is_figure b) true p.1).0)
spelled (a ∷ b ∷ c ∷ []) h =
    let p = and_parts (is_figure a) (is_figure b && (is_figure c && true)) h in
    let q = and_parts (is_figure b) (is_figure c && true) p.1 in
    three a b c (figure a p.0) (figure b q.0) (figure c (and_parts (is_figure c) true q.1).0)
spelled (a ∷ b ∷ c ∷ d ∷ rest) h = let l = short_code (a ∷ b ∷ c ∷ d ∷ rest) h in absurd (omega arith)

same_head : (x y : ℕ) (o : Option (List ℕ)) → is_some (if x == y then o else None) ≡ true → (x ≡ y) × (is_some o ≡ true)
same_head x y o h =
    elim (x == y) as (λ b. (x == y) ≡ b → is_some (if b then o else None) ≡ true → (x ≡ y) × (is_some o ≡ true)) [
      | true ↦ λ e k. (eqb-true x y e, k)
      | false ↦ λ e k. absurd (false≢true k)
    ] refl h

with_head : (x y : ℕ) (o : Option (List ℕ)) → x ≡ y → is_some o ≡ true → is_some (if x == y then o else None) ≡ true
with_head x y o e k = ap (λ b. is_some (if b then o else None)) (eq-eqb x y e) ∙ k

pub prefix_length : (front text : List ℕ) → is_prefix front text ≡ true → length front ≤ length text
prefix_length [] text h = omega arith
prefix_length (y ∷ ys) [] h = absurd (false≢true h)
prefix_length (y ∷ ys) (z ∷ zs) h = let l = prefix_length ys zs (same_head y z (after ys zs) h).1 in omega arith

pub prefix_is_take : (front text : List ℕ) → is_prefix front text ≡ true → front ≡ take (length front) text
prefix_is_take [] text h = refl
prefix_is_take (y ∷ ys) [] h = absurd (false≢true h)
prefix_is_take (y ∷ ys) (z ∷ zs) h = let e = same_head y z (after ys zs) h in let r = prefix_is_take ys zs e.1 in λ i. e.0 i ∷ r i

pub take_is_prefix : (n : ℕ) (text : List ℕ) → is_prefix (take n text) text ≡ true
take_is_prefix zero text = refl
take_is_prefix (suc n) [] = refl
take_is_prefix (suc n) (x ∷ xs) = with_head x x (after (take n xs) xs) refl (take_is_prefix n xs)
