use Rattle.tx_machine.proofs.Common.{◌≡◌, ◌-◌, ◌≤◌, map, drop, length, call_of, call_seen}
use Rattle.tx_machine.proofs.plain.calls.call_of.Given as goal

abbrev pub invariant-loop-at : goal.invariant-loop-at
invariant-loop-at g l = (l.at ≤ length l.calls) × (call_of l.number (map call_seen l.calls) ≡ call_of l.number (map call_seen (drop l.at l.calls)))

abbrev pub decreases-loop-at : goal.decreases-loop-at
decreases-loop-at g l = length l.calls - l.at
