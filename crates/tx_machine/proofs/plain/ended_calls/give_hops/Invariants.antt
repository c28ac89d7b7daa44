use Rattle.tx_machine.proofs.Common.{◌≡◌, ◌≤◌, ◌-◌, length, map, take, filter, call_seen, is_given, with_more}
use Rattle.tx_machine.proofs.plain.ended_calls.give_hops.Given as goal

abbrev pub invariant-loop-at : goal.invariant-loop-at
invariant-loop-at g l = (l.at ≤ length l.hops) × (l.releasing ≡ with_more l.fn.releasing (filter (is_given l.ends (map call_seen l.calls)) (map (λ h. h.circuit) (take l.at l.hops))))

abbrev pub decreases-loop-at : goal.decreases-loop-at
decreases-loop-at g l = length l.hops - l.at
