-- Texts of indexes, shown one after another.
use Rattle.std.proofs.Common.{◌≡◌, ℕ, ◌+◌, List, sym, ap}
use Rattle.tx_text.proofs.Ranges.{flat_map-range_more}
use Rattle.tx_html.specs.Shows.{Seen, Sets}
use Rattle.tx_svg.proofs.Common.{sets_is, sets_then, texts_below}

module _ {W : Type 0} {seen : W → Seen} (texts : ℕ → List (List ℕ)) where
  -- those of one index more
  pub below_more : {i x : ℕ} {a b c : W} → x ≡ i → Sets seen a b (texts_below i texts) → Sets seen b c (texts x) → Sets seen a c (texts_below (i + 1) texts)
  below_more {i} e v w = sets_is (flat_map-range_more texts i) (sets_then v (sets_is (ap texts (sym e)) w))

  -- those of all
  pub below_done : (i n : ℕ) {a b : W} → i ≡ n → Sets seen a b (texts_below i texts) → Sets seen a b (texts_below n texts)
  below_done i n e v = sets_is (ap (λ k. texts_below k texts) (sym e)) v
