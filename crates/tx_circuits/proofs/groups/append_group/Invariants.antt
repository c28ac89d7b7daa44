use Rattle.std.proofs.Common.{◌≡◌, ◌+◌, ◌≤◌, ◌++◌, map, vec_len, vec_capacity}
use Rattle.tx_circuits.proofs.Common.{range_with_len, free_slot}
use Rattle.tx_circuits.proofs.groups.append_group.Given as goal

-- the slots before this index are made, and there is room for all
abbrev pub invariant-loop-index : goal.invariant-loop-index
invariant-loop-index g l = record {
  made : l.slots.items ≡ l.fn.slots.items ++ map (free_slot l.count) (range_with_len 0 l.index);
  long : vec_len l.slots ≡ l.start + l.index;
  room : l.start + l.count ≤ vec_capacity l.slots;
}
