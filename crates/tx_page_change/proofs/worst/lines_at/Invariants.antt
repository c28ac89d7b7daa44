use Rattle.tx_page_change.proofs.Common.{◌≡◌, ◌≤◌, ◌*◌, take, sum_by}
use Rattle.tx_page_change.specs.Numbers.{home_lines}
use Rattle.tx_page_change.proofs.worst.lines_at.Given as goal

abbrev pub invariant-loop-index : goal.invariant-loop-index
invariant-loop-index g l = (l.count ≡ sum_by (home_lines l.plan l.exchange) (take l.index l.plan.ranges)) × (l.count ≤ l.index * 1000000000)
