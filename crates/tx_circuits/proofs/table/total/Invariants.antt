use Rattle.std.proofs.Common.{◌*◌, ◌≤◌}
use Rattle.tx_circuits.proofs.table.total.Given as goal

-- at most 240 for each group
abbrev pub invariant-loop-index : goal.invariant-loop-index
invariant-loop-index g l = l.circuits ≤ 240 * l.index
