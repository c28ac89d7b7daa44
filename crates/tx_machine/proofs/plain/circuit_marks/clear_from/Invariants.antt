use Rattle.tx_machine.proofs.Common.{◌-◌, ◌≤◌, IsCleared}
use Rattle.tx_machine.proofs.plain.circuit_marks.clear_from.Given as goal

abbrev pub invariant-loop-n : goal.invariant-loop-n
invariant-loop-n l = (l.n ≤ 240) × IsCleared l.group l.n l.fn.bits l.bits

abbrev pub decreases-loop-n : goal.decreases-loop-n
decreases-loop-n l = 240 - l.n
