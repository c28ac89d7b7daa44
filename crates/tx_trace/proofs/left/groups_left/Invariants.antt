use Rattle.std.proofs.Common.{◌≡◌, ◌++◌, ◌≤◌, length, drop}
use Rattle.tx_trace.specs.Left.{groups_left}
use Rattle.tx_trace.proofs.left.groups_left.Given as goal

abbrev pub invariant-loop-group : goal.invariant-loop-group
invariant-loop-group g l = record {
  few : length l.left.items ≤ l.group-index;
  kept : l.left.items ++ groups_left l.down (drop l.group-index l.list) ≡ groups_left l.down l.list;
}
