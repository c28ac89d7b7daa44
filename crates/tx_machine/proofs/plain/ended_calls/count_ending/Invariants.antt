use Rattle.tx_machine.proofs.Common.{◌≡◌, ◌≤◌, ◌+◌, ◌-◌, length, map, drop, filter, call_seen, ends_by}
use Rattle.tx_machine.proofs.plain.ended_calls.count_ending.Given as goal

abbrev pub invariant-loop-at : goal.invariant-loop-at
invariant-loop-at g l = (l.at ≤ length l.calls) × (l.count ≤ l.at) × (l.count + length (filter (ends_by l.ends) (map call_seen (drop l.at l.calls))) ≡ length (filter (ends_by l.ends) (map call_seen l.calls)))

abbrev pub decreases-loop-at : goal.decreases-loop-at
decreases-loop-at g l = length l.calls - l.at
