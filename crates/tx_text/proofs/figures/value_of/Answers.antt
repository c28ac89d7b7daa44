use Rattle.tx_text.proofs.Common.{◌≡◌, ◌<◌, ◌&&◌, ℕ, List, get_or, length, nat_le, true, sym, arith, list_all, and_parts, AllPass-from_list_all, are_figures, is_figure}
use Rattle.tx_text.proofs.Numbers.{value_more}
use Rattle.tx_text.proofs.figures.value_of.Goals as goal

figure_at : (text : List ℕ) (i : ℕ) → are_figures 1 10 text ≡ true → i < length text → is_figure (get_or text i 0) ≡ true
figure_at text i all lt =
    let figures = and_parts (nat_le 1 (length text) && nat_le (length text) 10) (list_all is_figure text) all in
    AllPass-from_list_all is_figure text figures.1 i 0 lt

pub loop-figure-preserved : goal.loop-figure-preserved
loop-figure-preserved c =
    let text : List ℕ = c.args.text.now in
    let i = c.loop-figure.figure-index in
    let lt : i < length text = omega (arith, c.loop-figure-test.true) in
    rw c.from.ensures (value_more text i c.loop-figure.value lt (figure_at text i (sym c.if-not-are_figures.ensures.gives) lt) c.loop-figure.invariant.0 c.loop-figure.invariant.1)
