use Rattle.std.proofs.Common.{◌≡◌, ◌<◌, ◌&&◌, ℕ, List, get_or, length, nat_le, true, sym, subst, arith}
use Rattle.std.specs.List.{list_all}
use Rattle.std.proofs.lemmas.Bool.{and_parts}
use Rattle.std.proofs.lemmas.List.Sums.{AllPass-from_list_all}
use Rattle.tx_text.specs.Words.{is_figure}
use Rattle.tx_text.proofs.Numbers.{value_more}
use Rattle.tx_plan.specs.Numbers.{is_national}
use Rattle.tx_page_change.proofs.counts.value_of.Goals as goal

figure_at : (text : List ℕ) (i : ℕ) → is_national text ≡ true → i < length text → is_figure (get_or text i 0) ≡ true
figure_at text i all lt =
    let figures = and_parts (nat_le 1 (length text) && nat_le (length text) 9) (list_all is_figure text) all in
    AllPass-from_list_all is_figure text figures.1 i 0 lt

pub loop-figure-preserved : goal.loop-figure-preserved
loop-figure-preserved c =
    let text : List ℕ = c.bytes-figures.result.now in
    let i = c.loop-figure.figure-index in
    let lt : i < length text = omega (arith, c.loop-figure-test.true) in
    let all : is_national text ≡ true = subst (λ (l : List ℕ). is_national l ≡ true) (sym c.bytes-figures.ensures.value) c.bytes-figures.ensures.figures in
    rw c.from.ensures (value_more text i c.loop-figure.value lt (figure_at text i all lt) c.loop-figure.invariant.0 c.loop-figure.invariant.1)
