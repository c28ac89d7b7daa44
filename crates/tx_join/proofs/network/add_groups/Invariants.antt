use Rattle.std.proofs.Common.{◌≡◌}
use Rattle.tx_join.proofs.NextDeclared.{groups_to}
use Rattle.tx_join.proofs.network.add_groups.Given as goal

abbrev pub invariant-loop-index : goal.invariant-loop-index
invariant-loop-index g l = l.builder ≡ groups_to l.initial.builder l.from l.other l.index
