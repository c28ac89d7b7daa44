use Rattle.tx_circuits.proofs.Common.{◌≡◌, map, End, free_at, state_of, until, list_of, IsListed}
use Rattle.tx_circuits.proofs.groups.relist.Given as goal

-- the lists hold what is free below the index, and no state has changed
abbrev pub invariant-loop-index : goal.invariant-loop-index
invariant-loop-index l = ((end : End) → IsListed (until l.index (free_at end l.slots)) end l.slots (list_of end l.lists)) × (map state_of l.slots ≡ map state_of l.initial.slots)
