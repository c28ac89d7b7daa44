-- Texts of the indexes of a list, one after another, and what is put to a sink of them.
use Rattle.tx_text.proofs.Common.{◌≡◌, ℕ, zero, suc, ◌+◌, ◌-◌, ◌<◌, Bool, List, ◌∷◌, ◌++◌, Option, refl, sym, ap, ◌∙◌, arith, append-nil, flat_map-append, line_written, Puts}
use Rattle.std.specs.List.{flat_map, range_with_len}
use Rattle.tx_text.proofs.Putting.{puts_is, puts_then}

range_split : (a m n : ℕ) → range_with_len a (m + n) ≡ range_with_len a m ++ range_with_len (a + m) n
range_split a zero n =
    let e : zero + n ≡ n = omega arith in
    let s : a + zero ≡ a = omega arith in
    rw (e, s) refl
range_split a (suc m) n =
    let e : suc m + n ≡ suc (m + n) = omega arith in
    let s : a + suc m ≡ (a + 1) + m = omega arith in
    rw (e, s) (ap (λ l. a ∷ l) (range_split (a + 1) m n))

module _ {A : Type 0} (f : ℕ → List A) where
  -- what stands at one index more
  pub flat_map-range_more : (i : ℕ) → flat_map f (range_with_len 0 (i + 1)) ≡ flat_map f (range_with_len 0 i) ++ f i
  flat_map-range_more i =
      let e : 0 + i ≡ i = omega arith in
      ap (flat_map f) (range_split 0 i 1) ∙ flat_map-append f (range_with_len 0 i) (range_with_len (0 + i) 1) ∙ ap (λ l. flat_map f (range_with_len 0 i) ++ l) (rw e (append-nil (f i)))

  -- what stands before an index, there, and after it
  pub flat_map-range_at : (i n : ℕ) → i < n → flat_map f (range_with_len 0 n) ≡ flat_map f (range_with_len 0 i) ++ (f i ++ flat_map f (range_with_len (i + 1) (n - (i + 1))))
  flat_map-range_at i n lt =
      let e : n ≡ i + suc (n - (i + 1)) = omega (arith, lt) in
      let s : 0 + i ≡ i = omega arith in
      ap (λ k. flat_map f (range_with_len 0 k)) e ∙ ap (flat_map f) (range_split 0 i (suc (n - (i + 1))))
      ∙ flat_map-append f (range_with_len 0 i) (range_with_len (0 + i) (suc (n - (i + 1)))) ∙ rw s refl

module _ {W : Type 0} {taken : W → Option (List ℕ)} {failed : W → Bool} where
  -- the texts of indexes
  module _ (text : ℕ → List ℕ) where
    pub index_more : {i x : ℕ} {a b c : W} → x ≡ i → Puts taken failed a b (flat_map text (range_with_len 0 i)) → Puts taken failed b c (text x) → Puts taken failed a c (flat_map text (range_with_len 0 (i + 1)))
    index_more {i} e v w = puts_is (flat_map-range_more text i) (puts_then v (puts_is (ap text (sym e)) w))

    pub indexes_done : (i n : ℕ) {a b : W} → i ≡ n → Puts taken failed a b (flat_map text (range_with_len 0 i)) → Puts taken failed a b (flat_map text (range_with_len 0 n))
    indexes_done i n e v = puts_is (ap (λ k. flat_map text (range_with_len 0 k)) (sym e)) v

  -- the lines of indexes
  module _ (f : ℕ → List (List (List ℕ))) where
    pub lines_more : {i x : ℕ} {a b c : W} → x ≡ i → Puts taken failed a b (flat_map line_written (flat_map f (range_with_len 0 i))) → Puts taken failed b c (flat_map line_written (f x))
        → Puts taken failed a c (flat_map line_written (flat_map f (range_with_len 0 (i + 1))))
    lines_more {i} e v w =
        puts_is (ap (flat_map line_written) (flat_map-range_more f i) ∙ flat_map-append line_written (flat_map f (range_with_len 0 i)) (f i))
        (puts_then v (puts_is (ap (λ k. flat_map line_written (f k)) (sym e)) w))

    pub lines_done : (i n : ℕ) {a b : W} → i ≡ n → Puts taken failed a b (flat_map line_written (flat_map f (range_with_len 0 i))) → Puts taken failed a b (flat_map line_written (flat_map f (range_with_len 0 n)))
    lines_done i n e v = puts_is (ap (λ k. flat_map line_written (flat_map f (range_with_len 0 k))) (sym e)) v
