use Rattle.tx_join.proofs.Common.{◌≡◌, false, take, list_any, is_range_of}
use Rattle.tx_join.proofs.entries.has_range_of.Given as goal

abbrev pub invariant-loop-index : goal.invariant-loop-index
invariant-loop-index g l = list_any (is_range_of l.code l.low l.high) (take l.index l.plan.ranges) ≡ false
