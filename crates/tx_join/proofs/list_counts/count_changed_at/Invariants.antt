use Rattle.tx_join.proofs.Common.{◌≡◌, ◌≤◌, length, take, count_by, range_with_len, is_changed}
use Rattle.tx_join.proofs.list_counts.count_changed_at.Given as goal

abbrev pub invariant-loop-index : goal.invariant-loop-index
invariant-loop-index g l = (l.count ≡ count_by (is_changed l.plan l.other l.exchange) (take l.index (range_with_len 0 (length l.plan.codes)))) × (l.count ≤ l.index)
