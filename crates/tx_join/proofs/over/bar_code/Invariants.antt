use Rattle.tx_join.proofs.Common.{◌≡◌, length, not, ◌==◌, range_with_len, home_of}
use Rattle.tx_join.proofs.NextDeclared.{so_far}
use Rattle.tx_join.proofs.over.bar_code.Given as goal

abbrev pub invariant-loop-index : goal.invariant-loop-index
invariant-loop-index g l = l.bars ≡ so_far l.initial.bars (λ x. not (home_of l.network l.code == x)) (λ x. record { exchange = x; code = l.code }) (range_with_len 0 (length l.network.exchanges)) l.index
