use Rattle.std.proofs.Common.{◌≡◌, ◌≤◌, length, map, vec_capacity}
use Rattle.tx_join.proofs.Common.{range_with_len, group_in}
use Rattle.tx_join.proofs.naming.groups_in.Given as goal

abbrev pub invariant-loop-index : goal.invariant-loop-index
invariant-loop-index g l = record {
  so_far : l.groups.items ≡ map (group_in l.plan l.from) (range_with_len 0 l.index);
  room : length l.from.groups ≤ vec_capacity l.groups;
}
