use Rattle.tx_change.proofs.Common.{ap, ◌∙◌, ◌++◌, not, filter, Pair, has_bar_as}
use Rattle.tx_change.proofs.Kept.{not_before}
use Rattle.tx_change.proofs.mixing.mixed_bars.Goals as goal

pub add_bars-requires-2 : goal.add_bars-requires-2
add_bars-requires-2 g c = λ r m there.
    let old = c.args.old.now in
    let barred = g.M.Mixing.barred c.args.mixing.now in
    let kept = filter (λ q. not (barred q.exchange q.code)) old.bars in
    ap (has_bar_as r) (c.in_ok-add_bars.ensures ∙ ap (λ l. l ++ kept) c.new-bars.ensures) ∙ not_before (λ (r : Pair). r.exchange) (λ r. r.code) barred r there old.bars
