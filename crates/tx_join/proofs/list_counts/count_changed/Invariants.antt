use Rattle.std.proofs.Common.{◌≡◌, ◌≤◌, ◌*◌, length, take}
use Rattle.tx_join.proofs.Common.{sum_by, range_with_len, changed_at}
use Rattle.tx_join.proofs.list_counts.count_changed.Given as goal

abbrev pub invariant-loop-index : goal.invariant-loop-index
invariant-loop-index g l = (l.count ≡ sum_by (changed_at l.plan l.other) (take l.index (range_with_len 0 (length l.plan.exchanges)))) × (l.count ≤ l.index * 1100)
