use Rattle.std.proofs.Common.{◌≡◌, ◌++◌, map, take, drop}
use Rattle.tx_circuits.proofs.Sound.{with_cleared}
use Rattle.tx_circuits.proofs.groups.clear.Given as goal

-- the slots before this one are cleared
abbrev pub invariant-loop-slot : goal.invariant-loop-slot
invariant-loop-slot l = l.slots ≡ map with_cleared (take l.slot-index l.initial.slots) ++ drop l.slot-index l.initial.slots
