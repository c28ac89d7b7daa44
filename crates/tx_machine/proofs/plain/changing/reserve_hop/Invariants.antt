use Rattle.std.proofs.Common.{◌-◌, length}
use Rattle.tx_machine.proofs.Sweeping.{IsReserving}
use Rattle.tx_machine.proofs.plain.changing.reserve_hop.Given as goal

abbrev pub invariant-loop-at : goal.invariant-loop-at
invariant-loop-at g l = IsReserving l.number l.fn.calls l.at l.calls

abbrev pub decreases-loop-at : goal.decreases-loop-at
decreases-loop-at g l = length l.calls - l.at
