use Rattle.tx_machine.proofs.Common.{◌≡◌, ◌≤◌, ◌-◌, length, map, take, filter, flat_map, circuits_used, call_seen, is_given, with_more, ends_by}
use Rattle.tx_machine.proofs.plain.ended_calls.give_up.Given as goal

abbrev pub invariant-loop-at : goal.invariant-loop-at
invariant-loop-at g l = (l.at ≤ length l.calls) × (l.releasing ≡ with_more l.fn.releasing (filter (is_given l.ends (map call_seen l.calls)) (flat_map circuits_used (filter (ends_by l.ends) (map call_seen (take l.at l.calls))))))

abbrev pub decreases-loop-at : goal.decreases-loop-at
decreases-loop-at g l = length l.calls - l.at
