-- Things whose image passes a test, as a loop over the things finds the first of them or counts them.
use Rattle.tx_machine.proofs.Common.{◌≡◌, ℕ, suc, ◌+◌, ◌<◌, ◌≤◌, Bool, true, false, cond, List, ◌∷◌, length, map, drop, get_or, Some, None, sym, ap, ◌∙◌, add-one, arith, filter, find, drop-cons, drop_all}

module _ {X Y : Type 0} (test : Y → Bool) (f : X → Y) (xs : List X) (i : ℕ) where
  module _ (x : X) (low : i < length xs) (is : x ≡ get_or xs i x) where
    opened : find test (map f (drop i xs)) ≡ cond (test (f x)) (Some (f x)) (find test (map f (drop (i + 1) xs)))
    opened =
        ap (λ l. find test (map f l)) (drop-cons xs i x low)
        ∙ ap (λ y. find test (map f (y ∷ drop (suc i) xs))) (sym is)
        ∙ ap (λ k. cond (test (f x)) (Some (f x)) (find test (map f (drop k xs)))) (sym (add-one i))

    pub passed : test (f x) ≡ false → find test (map f (drop i xs)) ≡ find test (map f (drop (i + 1) xs))
    passed t = opened ∙ ap (λ b. cond b (Some (f x)) (find test (map f (drop (i + 1) xs)))) t

    shown : filter test (map f (drop i xs)) ≡ cond (test (f x)) (f x ∷ filter test (map f (drop (i + 1) xs))) (filter test (map f (drop (i + 1) xs)))
    shown =
        ap (λ l. filter test (map f l)) (drop-cons xs i x low)
        ∙ ap (λ y. filter test (map f (y ∷ drop (suc i) xs))) (sym is)
        ∙ ap (λ k. cond (test (f x)) (f x ∷ filter test (map f (drop k xs))) (filter test (map f (drop k xs)))) (sym (add-one i))

    -- a loop has counted those before the index
    module _ (count new total : ℕ) (few : count ≤ i) (all : count + length (filter test (map f (drop i xs))) ≡ total) where
      pub counted : test (f x) ≡ true → new ≡ count + 1 → (i + 1 ≤ length xs) × (new ≤ i + 1) × (new + length (filter test (map f (drop (i + 1) xs))) ≡ total)
      counted t e =
          let one : length (filter test (map f (drop i xs))) ≡ suc (length (filter test (map f (drop (i + 1) xs)))) = ap length (shown ∙ ap (λ b. cond b (f x ∷ filter test (map f (drop (i + 1) xs))) (filter test (map f (drop (i + 1) xs)))) t) in
          (omega arith, omega arith, omega arith)

      pub skipped : test (f x) ≡ false → new ≡ count → (i + 1 ≤ length xs) × (new ≤ i + 1) × (new + length (filter test (map f (drop (i + 1) xs))) ≡ total)
      skipped t e =
          let none : length (filter test (map f (drop i xs))) ≡ length (filter test (map f (drop (i + 1) xs))) = ap length (shown ∙ ap (λ b. cond b (f x ∷ filter test (map f (drop (i + 1) xs))) (filter test (map f (drop (i + 1) xs)))) t) in
          (omega arith, omega arith, omega arith)

  pub none_left : length xs ≤ i → find test (map f (drop i xs)) ≡ None
  none_left past = ap (λ l. find test (map f l)) (drop_all i xs past)

  pub all_counted : (count total : ℕ) → length xs ≤ i → count + length (filter test (map f (drop i xs))) ≡ total → count ≡ total
  all_counted count total past all =
      let none : length (filter test (map f (drop i xs))) ≡ 0 = ap (λ l. length (filter test (map f l))) (drop_all i xs past) in
      omega arith
