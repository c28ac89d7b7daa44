use Rattle.tx_page_change.proofs.Common.{◌≡◌, ◌≤◌, length, take, count_by, range_with_len, before_of, after_of}
use Rattle.tx_page_change.specs.WayTexts.{is_other_list}
use Rattle.tx_page_change.proofs.way.lists_differing_at.Given as goal

abbrev pub invariant-loop-index : goal.invariant-loop-index
invariant-loop-index g l = (l.count ≡ count_by (is_other_list (before_of l.between) (after_of l.between) l.exchange) (take l.index (range_with_len 0 (length l.plan.codes)))) × (l.count ≤ l.index)
