-- A test of all elements of a list, made in blocks.
use Rattle.tx_text.proofs.Common.{◌≡◌, ℕ, ◌+◌, ◌-◌, ◌≤◌, Bool, true, false, ◌&&◌, List, take, drop, refl, ap, sym, ◌∙◌, take-append-drop, arith, list_all}
use Rattle.std.proofs.Math.Seq.{take-add}
use Rattle.std.proofs.lemmas.List.Folds.{list_all-append}

module _ {X : Type 0} (p : X → Bool) where
  -- the first i + n are the first i and the n after them
  pub in_blocks : (xs : List X) (i n : ℕ) → list_all p (take (i + n) xs) ≡ (list_all p (take i xs) && list_all p (take n (drop i xs)))
  in_blocks xs i n = ap (list_all p) (take-add i n xs) ∙ list_all-append p (take i xs) (take n (drop i xs))

  -- a front and all from an index on
  pub in_two : (xs : List X) (i : ℕ) → list_all p xs ≡ (list_all p (take i xs) && list_all p (drop i xs))
  in_two xs i = ap (list_all p) (sym (take-append-drop i xs)) ∙ list_all-append p (take i xs) (drop i xs)

-- what is in both is tested twice
twice : (a b c : Bool) → ((a && b) && (b && c)) ≡ (a && (b && c))
twice false b c = refl
twice true false c = refl
twice true true c = refl

-- a front, and all from an index in it on
pub overlapping : {X : Type 0} (p : X → Bool) (xs : List X) (i j : ℕ) → j ≤ i → (list_all p (take i xs) && list_all p (drop j xs)) ≡ list_all p xs
overlapping p xs i j le =
    let rest : List _ = drop j xs in
    let front : list_all p (take i xs) ≡ (list_all p (take j xs) && list_all p (take (i - j) rest)) = ap (λ n. list_all p (take n xs)) (omega (arith, le)) ∙ in_blocks p xs j (i - j) in
    ap (λ b. b && list_all p rest) front
    ∙ ap (λ b. (list_all p (take j xs) && list_all p (take (i - j) rest)) && b) (in_two p rest (i - j))
    ∙ twice (list_all p (take j xs)) (list_all p (take (i - j) rest)) (list_all p (drop (i - j) rest))
    ∙ sym (in_two p xs j ∙ ap (λ b. list_all p (take j xs) && b) (in_two p rest (i - j)))
