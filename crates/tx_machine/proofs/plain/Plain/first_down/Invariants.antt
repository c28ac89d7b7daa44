use Rattle.tx_machine.proofs.Common.{◌≡◌, map, find, downward, is_free_at}
use Rattle.tx_machine.proofs.plain.Plain.first_down.Given as goal

abbrev pub invariant-loop-n : goal.invariant-loop-n
invariant-loop-n g l = find (is_free_at l.self.plan l.self.state l.exchange) (map (λ n. record { group = l.group; number = n }) (downward l.count)) ≡ find (is_free_at l.self.plan l.self.state l.exchange) (map (λ n. record { group = l.group; number = n }) (downward l.n))

abbrev pub decreases-loop-n : goal.decreases-loop-n
decreases-loop-n g l = l.n
