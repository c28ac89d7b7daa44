use Rattle.tx_join.proofs.Common.{◌≡◌, ◌+◌, not, length, take, filter, has_group}
use Rattle.tx_join.proofs.refusing.groups_of_both.Given as goal

abbrev pub invariant-loop-index : goal.invariant-loop-index
invariant-loop-index g l = l.count ≡ length l.old.groups + length (filter (λ x. not (has_group l.old x.name)) (take l.index l.new.groups))
