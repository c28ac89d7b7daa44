-- The lines of the lists and bars that one of two plans has alone, one after another.
use Rattle.std.proofs.Common.{◌≡◌, ℕ, zero, suc, ◌+◌, ◌≤◌, Bool, true, false, cond, List, [], ◌∷◌, ◌++◌, length, take, Option, refl, sym, ap, ◌∙◌, append_assoc, append-nil, add-one}
use Rattle.tx_join.proofs.Common.{filter, take_all, Puts, line_written, puts_is, puts_then}
use Rattle.tx_plantext.specs.PlanWritten.{lines_of_list}
use Rattle.tx_join.specs.inner.Alone.{kept_line}

module _ {A : Type 0} (words : A → List (List ℕ)) (test : A → Bool) where
  -- the lines of the entries that pass
  abbrev pub kept_lines : List A → List ℕ
  kept_lines entries = lines_of_list words (filter test entries)

  one_first : (b : Bool) (x : A) (xs : List A) → lines_of_list words (cond b (x ∷ xs) xs) ≡ (cond b (line_written (words x)) []) ++ lines_of_list words xs
  one_first true x xs = refl
  one_first false x xs = refl

  one_more : (xs : List A) (i : ℕ) → kept_lines (take (suc i) xs) ≡ kept_lines (take i xs) ++ kept_line words test xs i
  one_more [] zero = refl
  one_more [] (suc i) = refl
  one_more (x ∷ xs) zero = one_first (test x) x [] ∙ append-nil (cond (test x) (line_written (words x)) [])
  one_more (x ∷ xs) (suc i) =
      one_first (test x) x (filter test (take (suc i) xs))
      ∙ ap (λ l. cond (test x) (line_written (words x)) [] ++ l) (one_more xs i)
      ∙ sym (append_assoc (cond (test x) (line_written (words x)) []) (kept_lines (take i xs)) (kept_line words test xs i))
      ∙ ap (λ l. l ++ kept_line words test xs i) (sym (one_first (test x) x (filter test (take i xs))))

  module _ {W : Type 0} {taken : W → Option (List ℕ)} {failed : W → Bool} (xs : List A) (i : ℕ) where
    pub kept_more : {a b c : W} → Puts taken failed a b (kept_lines (take i xs)) → Puts taken failed b c (kept_line words test xs i) → Puts taken failed a c (kept_lines (take (i + 1) xs))
    kept_more v w = rw (add-one, one_more xs i) (puts_then v w)

    pub kept_all : {a b : W} → length xs ≤ i → Puts taken failed a b (kept_lines (take i xs)) → Puts taken failed a b (kept_lines xs)
    kept_all all v = puts_is (ap kept_lines (sym (take_all i xs all))) v
