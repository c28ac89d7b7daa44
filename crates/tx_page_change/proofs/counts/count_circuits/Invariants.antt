use Rattle.tx_page_change.proofs.Common.{◌≡◌, ◌≤◌, ◌*◌, length, take, sum_by, range_with_len}
use Rattle.tx_plan.specs.Circuits.{count_of}
use Rattle.tx_page_change.proofs.counts.count_circuits.Given as goal

abbrev pub invariant-loop-index : goal.invariant-loop-index
invariant-loop-index g l = (l.count ≡ sum_by (count_of l.plan) (take l.index (range_with_len 0 (length l.plan.groups)))) × (l.count ≤ l.index * 240)
