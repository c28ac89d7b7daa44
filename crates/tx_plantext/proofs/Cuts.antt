-- A text that is cut at its first LF.
use Rattle.std.proofs.Common.{◌≡◌, ℕ, zero, suc, ◌+◌, ◌<◌, ◌≤◌, List, [], ◌∷◌, length, take, drop, add-one, refl, sym, ap, ◌∙◌, arith}
use Rattle.std.specs.List.{slice_split, position_or_len, before_first, after_first}
use Rattle.std.proofs.lemmas.List.{length-drop, take_all}
use Rattle.std.proofs.lemmas.List.Splits.{slice_split_none, slice_split_first}
use Rattle.std.proofs.lemmas.List.Sums.{fails_before_first}
use Rattle.tx_text.specs.Text.{is_lf}

drop_one : (xs : List ℕ) (n : ℕ) → drop 1 (drop n xs) ≡ drop (n + 1) xs
drop_one xs n = more xs n ∙ ap (λ m. drop m xs) (sym (add-one n))
  where
    more : (xs : List ℕ) (n : ℕ) → drop 1 (drop n xs) ≡ drop (suc n) xs
    more [] zero = refl
    more [] (suc n) = refl
    more (x ∷ xs) zero = refl
    more (x ∷ xs) (suc n) = more xs n

pub cut_at : (text line rest after : List ℕ) (n : ℕ) → n ≡ position_or_len is_lf text → line ≡ take n text → rest ≡ drop n text → 0 < length rest → after ≡ drop 1 rest → slice_split is_lf text ≡ line ∷ slice_split is_lf after
cut_at text line rest after n e f g some h =
    let lt : position_or_len is_lf text < length text = omega (arith, e, ap length g, length-drop n text) in
    let front : before_first is_lf text ≡ line = (λ i. take (sym e i) text) ∙ sym f in
    let back : after_first is_lf text ≡ after = (λ i. drop (sym e i + 1) text) ∙ sym (h ∙ ap (drop 1) g ∙ drop_one text n) in
    slice_split_first is_lf text 0 lt ∙ (λ i. front i ∷ slice_split is_lf (back i))

pub no_cut : (text line rest : List ℕ) (n : ℕ) → n ≡ position_or_len is_lf text → line ≡ take n text → rest ≡ drop n text → length rest ≡ 0 → slice_split is_lf text ≡ line ∷ []
no_cut text line rest n e f g none =
    let far : length text ≤ n = omega (arith, ap length g, length-drop n text) in
    slice_split_none is_lf text (λ k d l. fails_before_first is_lf text k d (omega (arith, e)))
    ∙ ap (λ l. l ∷ []) (sym (f ∙ take_all n text far))
