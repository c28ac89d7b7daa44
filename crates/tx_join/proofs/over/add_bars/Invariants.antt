use Rattle.tx_join.proofs.Common.{◌≡◌, ◌++◌, map, take, nat_lt, filter, bar_in, takes}
use Rattle.tx_join.proofs.over.add_bars.Given as goal

abbrev pub invariant-loop-index : goal.invariant-loop-index
invariant-loop-index g l = l.bars ≡ l.initial.bars ++ filter (λ b. nat_lt b.code l.codes) (map (bar_in l.network l.from) (filter (λ b. takes l.own l.from l.whole b.exchange b.code) (take l.index l.from.bars)))
