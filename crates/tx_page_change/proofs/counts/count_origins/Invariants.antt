use Rattle.tx_page_change.proofs.Common.{◌≡◌, ◌≤◌, length, take, count_by, range_with_len, is_origin}
use Rattle.tx_page_change.proofs.counts.count_origins.Given as goal

abbrev pub invariant-loop-index : goal.invariant-loop-index
invariant-loop-index g l = (l.count ≡ count_by (is_origin l.plan) (take l.index (range_with_len 0 (length l.plan.exchanges)))) × (l.count ≤ l.index)
