use Rattle.tx_machine.proofs.Common.{◌≡◌, ◌-◌, ◌≤◌, not, ◌&&◌, ◌==◌, map, drop, length, find, Call, seizes_from, call_seen}
use Rattle.tx_machine.proofs.plain.calls.rival_of.Given as goal

abbrev pub invariant-loop-at : goal.invariant-loop-at
invariant-loop-at g l = (l.at ≤ length l.calls) × (find (λ (d : Call). not (d.number == l.number) && seizes_from l.plan d l.circuit l.exchange) (map call_seen l.calls) ≡ find (λ (d : Call). not (d.number == l.number) && seizes_from l.plan d l.circuit l.exchange) (map call_seen (drop l.at l.calls)))

abbrev pub decreases-loop-at : goal.decreases-loop-at
decreases-loop-at g l = length l.calls - l.at
