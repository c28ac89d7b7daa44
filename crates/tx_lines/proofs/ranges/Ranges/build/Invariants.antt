use Rattle.std.proofs.Common.{◌≡◌, ◌≤◌, take, length, vec_capacity}
use Rattle.tx_lines.proofs.ranges.Ranges.build.Given as goal

abbrev pub invariant-loop-index : goal.invariant-loop-index
invariant-loop-index g l = record { items : l.ranges.items ≡ take l.index l.plan.ranges; room : length l.plan.ranges ≤ vec_capacity l.ranges }
