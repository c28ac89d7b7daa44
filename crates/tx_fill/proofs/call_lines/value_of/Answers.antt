use Rattle.tx_fill.proofs.Common.{◌≡◌, ◌<◌, ℕ, List, get_or, length, true, ap, ◌∙◌, arith, take_all, list_all, digits_value, is_figure}
use Rattle.std.proofs.lemmas.List.Sums.{AllPass-from_list_all}
use Rattle.tx_text.proofs.Numbers.{value_more}
use Rattle.tx_fill.proofs.LinesAt.{figures_in, value_small}
use Rattle.tx_fill.proofs.call_lines.value_of.Goals as goal

pub loop-figure-preserved : goal.loop-figure-preserved
loop-figure-preserved c =
    let text : List ℕ = c.bytes-text.result.now in
    let i = c.loop-figure.figure-index in
    let low : i < length text = omega (arith, c.loop-figure-test.true) in
    let all = (figures_in 1 9 c.args.number.now c.bytes-text.ensures.figures).2 in
    let figure : is_figure (get_or text i 0) ≡ true = AllPass-from_list_all is_figure text
    (ap (list_all is_figure) c.bytes-text.ensures.value ∙ all) i 0 low in
    rw c.from.ensures (value_more text i c.loop-figure.value low figure c.loop-figure.invariant.0
    c.loop-figure.invariant.1)

pub returns : goal.returns
returns c =
    let text : List ℕ = c.bytes-text.result.now in
    let number : List ℕ = c.args.number.now in
    let v : c.loop-figure.value ≡ digits_value 10 number = c.loop-figure.invariant.0
    ∙ ap (digits_value 10) (take_all c.loop-figure.figure-index text c.loop-figure-test.false
    ∙ c.bytes-text.ensures.value) in
    let small = value_small number c.bytes-text.ensures.figures in
    let least = small.0 in
    let most = small.1 in
    record { value = v; few = omega arith }
