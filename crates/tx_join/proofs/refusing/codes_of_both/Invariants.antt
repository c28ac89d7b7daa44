use Rattle.tx_join.proofs.Common.{◌≡◌, ◌+◌, not, length, take, filter, has_code}
use Rattle.tx_join.proofs.refusing.codes_of_both.Given as goal

abbrev pub invariant-loop-index : goal.invariant-loop-index
invariant-loop-index g l = l.count ≡ length l.old.codes + length (filter (λ x. not (has_code l.old x.figures)) (take l.index l.new.codes))
