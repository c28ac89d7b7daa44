use Rattle.tx_change.proofs.Common.{◌≡◌, ◌++◌, take, filter, keeps_bar}
use Rattle.tx_change.proofs.mixing.add_bars.Given as goal

abbrev pub invariant-loop-index : goal.invariant-loop-index
invariant-loop-index g l = l.bars ≡ l.initial.bars ++ filter (keeps_bar l.from_new (g.M.Mixing.barred l.mixing)) (take l.index l.from.bars)
