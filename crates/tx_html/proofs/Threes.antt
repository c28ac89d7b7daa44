-- Figures that are written in threes.
use Rattle.std.proofs.Common.{◌≡◌, ℕ, ◌+◌, ◌<◌, ◌≤◌, Bool, List, [], ◌∷◌, ◌++◌, length, drop, get_or, Option, refl, sym, ap, ◌∙◌, append_assoc, append-nil, arith}
use Rattle.std.proofs.lemmas.List.{at_drop_more, drop_all, length-drop}
use Rattle.std.proofs.lemmas.List.Concat.{flat_map-append}
use Rattle.tx_text.specs.Puts.{Puts}
use Rattle.tx_text.proofs.Putting.{puts_none, puts_then, puts_is}
use Rattle.tx_html.specs.Amounts.{gap, in_threes}
use Rattle.tx_html.specs.Escaped.{escaped_byte, escaped}

-- the figures before index i were written
pub record ThreesPut {W : Type 0} (taken : W → Option (List ℕ)) (failed : W → Bool) (figures : List ℕ) (i : ℕ) (a b : W) : Type 0 where
  pub front : List ℕ
  pub puts : Puts taken failed a b (escaped front)
  pub left : front ++ in_threes (drop i figures) ≡ in_threes figures

module _ {W : Type 0} {taken : W → Option (List ℕ)} {failed : W → Bool} {figures : List ℕ} where
  pub no_figure_put : {a : W} → ThreesPut taken failed figures 0 a a
  no_figure_put = record { front = []; puts = puts_none; left = refl }

  pub figure_put : (n : ℕ) {i f : ℕ} {a b d e : W} → i < length figures → f ≡ get_or figures i f → n + (i + 1) ≡ length figures
      → ThreesPut taken failed figures i a b → Puts taken failed b d (escaped_byte f) → Puts taken failed d e (escaped (gap n)) → ThreesPut taken failed figures (i + 1) a e
  figure_put n {i} {f} low is after v w x =
      let here = f ∷ gap n in
      let rest = drop (i + 1) figures in
      let many : n ≡ length rest = let l = length-drop (i + 1) figures in omega (arith, l, after) in
      let more : drop i figures ≡ f ∷ rest = at_drop_more (λ l. l) figures i f low ∙ ap (λ y. y ∷ rest) (sym is) in
      record {
        front = v.front ++ here;
        puts = puts_is (flat_map-append escaped_byte v.front here) (puts_then v.puts (puts_then w x));
        left = append_assoc v.front here (in_threes rest) ∙ ap (λ k. v.front ++ f ∷ (gap k ++ in_threes rest)) many
            ∙ ap (λ l. v.front ++ in_threes l) (sym more) ∙ v.left;
      }

  pub all_figures_put : {i : ℕ} {a b : W} → length figures ≤ i → ThreesPut taken failed figures i a b → Puts taken failed a b (escaped (in_threes figures))
  all_figures_put {i} all v =
      puts_is (ap escaped (sym v.left ∙ ap (λ l. v.front ++ in_threes l) (drop_all i figures all) ∙ append-nil v.front)) v.puts
