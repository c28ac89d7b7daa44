-- Which groups of a plan are down.
use Rattle.std.proofs.Common.{◌≡◌, ◌∙◌, ℕ, ◌+◌, Bool, true, false, cond, List, [], ◌∷◌, ◌++◌, sym, ap, arith, append-nil, filter}
use Rattle.std.specs.List.{range_with_len}
use Rattle.std.proofs.lemmas.List.{map-id}
use Rattle.std.proofs.lemmas.List.FromFn.{filter_of_map_range_with_len_more}

module _ (t : ℕ → Bool) (n : ℕ) where
  one_more : filter t (range_with_len 0 (n + 1))
      ≡ filter t (range_with_len 0 n) ++ cond (t n) (n ∷ []) []
  one_more =
      ap (filter t) (sym (map-id (range_with_len 0 (n + 1))))
      ∙ filter_of_map_range_with_len_more t (λ k. k) 0 n n (omega arith)
      ∙ ap (λ l. filter t l ++ cond (t n) (n ∷ []) []) (map-id (range_with_len 0 n))

  module _ (old new : List ℕ) (so : old ≡ filter t (range_with_len 0 n)) where
    -- the next one is one of them
    pub one_down : new ≡ old ++ n ∷ [] → t n ≡ true → new ≡ filter t (range_with_len 0 (n + 1))
    one_down is down =
        is ∙ ap (λ l. l ++ n ∷ []) so
        ∙ ap (λ b. filter t (range_with_len 0 n) ++ cond b (n ∷ []) []) (sym down) ∙ sym one_more

    -- it is not
    pub none_down : new ≡ old → t n ≡ false → new ≡ filter t (range_with_len 0 (n + 1))
    none_down is up =
        is ∙ so ∙ sym (append-nil (filter t (range_with_len 0 n)))
        ∙ ap (λ b. filter t (range_with_len 0 n) ++ cond b (n ∷ []) []) (sym up) ∙ sym one_more
