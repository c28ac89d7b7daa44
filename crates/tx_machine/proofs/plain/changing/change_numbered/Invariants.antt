use Rattle.std.proofs.Common.{◌-◌, length}
use Rattle.tx_machine.proofs.Sweeping.{IsChanging}
use Rattle.tx_machine.proofs.plain.changing.change_numbered.Given as goal

abbrev pub invariant-loop-at : goal.invariant-loop-at
invariant-loop-at g l = IsChanging l.number l.change l.fn.calls l.at l.calls

abbrev pub decreases-loop-at : goal.decreases-loop-at
decreases-loop-at g l = length l.calls - l.at
