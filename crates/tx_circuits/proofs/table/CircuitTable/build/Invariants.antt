use Rattle.std.proofs.Common.{◌≡◌, map, take}
use Rattle.tx_circuits.proofs.Built.{fresh}
use Rattle.tx_circuits.proofs.table.CircuitTable.build.Given as goal

-- the groups before this one stand, all their circuits free
abbrev pub invariant-loop-index : goal.invariant-loop-index
invariant-loop-index g l = l.groups ≡ map fresh (take l.index l.plan.groups)
