use Rattle.tx_join.proofs.Common.{List, ◌++◌, false, true, ◌∙◌, ap, sym, subst, Pair, bars_from, taken_bars, BarsDiffer}
use Rattle.tx_join.proofs.Splits.{bars_split, own_bars_differ, shared_bars_differ, all_bars_differ}
use Rattle.tx_join.proofs.over.bars_over.Goals as goal

pub add_bars-requires : goal.add_bars-requires
add_bars-requires g c =
    let j = c.args.network.now in
    let own = c.args.own.now in
    let n = c.args.codes in
    subst (λ (l : List Pair). BarsDiffer (l ++ taken_bars j own own true n)) (sym c.new-bars.ensures) (own_bars_differ j own c.args.other.now n c.requires)

pub add_bars-requires-2 : goal.add_bars-requires-2
add_bars-requires-2 g c =
    let j = c.args.network.now in
    let own = c.args.own.now in
    let other = c.args.other.now in
    let n = c.args.codes in
    let first = c.in_ok-add_bars.ensures ∙ ap (λ (l : List Pair). l ++ taken_bars j own own true n) c.new-bars.ensures in
    subst (λ (l : List Pair). BarsDiffer (l ++ taken_bars j own other false n)) (sym first) (shared_bars_differ j own other n c.requires)

pub bar_codes-requires : goal.bar_codes-requires
bar_codes-requires g c =
    let j = c.args.network.now in
    let own = c.args.own.now in
    let other = c.args.other.now in
    let n = c.args.codes in
    let first = c.in_ok-add_bars.ensures ∙ ap (λ (l : List Pair). l ++ taken_bars j own own true n) c.new-bars.ensures in
    let second = c.in_ok-add_bars-2.ensures ∙ ap (λ (l : List Pair). l ++ taken_bars j own other false n) first in
    subst (λ (l : List Pair). BarsDiffer (l ++ bars_from j n)) (sym second) (all_bars_differ j own other n c.requires)

pub returns : goal.returns
returns g c =
    let j = c.args.network.now in
    let own = c.args.own.now in
    let other = c.args.other.now in
    let n = c.args.codes in
    let first = c.in_ok-add_bars.ensures ∙ ap (λ (l : List Pair). l ++ taken_bars j own own true n) c.new-bars.ensures in
    let second = c.in_ok-add_bars-2.ensures ∙ ap (λ (l : List Pair). l ++ taken_bars j own other false n) first in
    c.in_ok-bar_codes.ensures ∙ ap (λ (l : List Pair). l ++ bars_from j n) second ∙ sym (bars_split j own other n)
