use Rattle.tx_circuits.specs.inner.Slots.{free_at, rank_of}
use Rattle.tx_circuits.proofs.Before.{left_from, Reached}
use Rattle.tx_circuits.proofs.lists.last_before.Given as goal

abbrev pub invariant-loop-rest : goal.invariant-loop-rest
invariant-loop-rest l = Reached (free_at l.end l.slots) (rank_of l.way) l.limit l.last l.rest

abbrev pub decreases-loop-rest : goal.decreases-loop-rest
decreases-loop-rest l = left_from (rank_of l.way) l.rest
