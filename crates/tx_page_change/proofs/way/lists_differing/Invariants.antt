use Rattle.tx_page_change.proofs.Common.{◌≡◌, ◌≤◌, ◌*◌, length, take, sum_by, range_with_len, before_of, after_of}
use Rattle.tx_page_change.specs.WayTexts.{lists_differing_at}
use Rattle.tx_page_change.proofs.way.lists_differing.Given as goal

abbrev pub invariant-loop-index : goal.invariant-loop-index
invariant-loop-index g l = (l.count ≡ sum_by (lists_differing_at l.plan (before_of l.between) (after_of l.between)) (take l.index (range_with_len 0 (length l.plan.exchanges)))) × (l.count ≤ l.index * 1100)
