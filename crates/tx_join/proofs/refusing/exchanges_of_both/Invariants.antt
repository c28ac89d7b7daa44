use Rattle.tx_join.proofs.Common.{◌≡◌, ◌+◌, not, length, take, filter, has_exchange}
use Rattle.tx_join.proofs.refusing.exchanges_of_both.Given as goal

abbrev pub invariant-loop-index : goal.invariant-loop-index
invariant-loop-index g l = l.count ≡ length l.old.exchanges + length (filter (λ x. not (has_exchange l.old x)) (take l.index l.new.exchanges))
