use Rattle.tx_machine.proofs.Common.{◌≡◌, ◌≤◌, ◌-◌, map, None, find, upward, is_free_at}
use Rattle.tx_machine.proofs.plain.Plain.first_up.Given as goal

abbrev pub invariant-loop-n : goal.invariant-loop-n
invariant-loop-n g l = (l.n ≤ l.count) × (find (is_free_at l.self.plan l.self.state l.exchange) (map (λ n. record { group = l.group; number = n }) (upward l.n)) ≡ None)

abbrev pub decreases-loop-n : goal.decreases-loop-n
decreases-loop-n g l = l.count - l.n
