use Rattle.tx_page_change.proofs.Common.{◌≡◌, ◌≤◌, ◌*◌, length, take, sum_by, range_with_len}
use Rattle.tx_page_change.specs.Numbers.{cut_lines_at}
use Rattle.tx_page_change.proofs.worst.lines_cut.Given as goal

abbrev pub invariant-loop-index : goal.invariant-loop-index
invariant-loop-index g l = (l.count ≡ sum_by (cut_lines_at l.plan l.outcome.cuts.items) (take l.index (range_with_len 0 (length l.plan.exchanges)))) × (l.count ≤ l.index * 4096000000000)
