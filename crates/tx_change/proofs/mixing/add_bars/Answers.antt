use Rattle.tx_change.proofs.Common.{Pair, among_at, keeps_bar}
use Rattle.tx_change.proofs.Kept.{kept_next, next_new}
use Rattle.tx_change.proofs.mixing.add_bars.Goals as goal

pub add_bar-requires : goal.add_bar-requires
add_bar-requires g c = λ r at keeps.
    next_new (λ (r : Pair). r.exchange) (λ r. r.code) (keeps_bar c.args.from_new (g.M.Mixing.barred c.args.mixing.now)) c.args.bars.now c.loop-index.bars c.args.from.now.bars c.loop-index.index r c.bars-index-end.ensures.rules.bars_differ at c.loop-index.invariant
    (c.requires r (among_at c.args.from.now.bars c.loop-index.index r at) keeps)

pub loop-index-preserved : goal.loop-index-preserved
loop-index-preserved g c =
    kept_next (keeps_bar c.args.from_new (g.M.Mixing.barred c.args.mixing.now)) c.args.bars.now c.loop-index.bars c.add_bar.new.bars c.args.from.now.bars c.loop-index.index c.loop-index.invariant c.in_ok-add_bar.ensures
