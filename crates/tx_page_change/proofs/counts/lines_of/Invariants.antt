use Rattle.tx_page_change.proofs.Common.{◌≡◌, ◌≤◌, ◌*◌, take, sum_by, code_lines}
use Rattle.tx_page_change.proofs.counts.lines_of.Given as goal

abbrev pub invariant-loop-index : goal.invariant-loop-index
invariant-loop-index g l = (l.count ≡ sum_by (code_lines l.code) (take l.index l.plan.ranges)) × (l.count ≤ l.index * 1000000000)
