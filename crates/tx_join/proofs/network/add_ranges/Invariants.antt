use Rattle.std.proofs.Common.{◌≡◌}
use Rattle.tx_join.proofs.NextDeclared.{ranges_to}
use Rattle.tx_join.proofs.network.add_ranges.Given as goal

abbrev pub invariant-loop-index : goal.invariant-loop-index
invariant-loop-index g l = l.builder ≡ ranges_to l.initial.builder l.from l.index
